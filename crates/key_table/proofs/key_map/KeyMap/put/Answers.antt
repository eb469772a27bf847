use Rattle.std.proofs.Common.{◌∙◌, ap, List, ℕ}
use Rattle.std.specs.FinMap as map
use Rattle.claim_types.specs.declared.key.Bucket.TheVariants.{OrganizationPath, Route, Address, SshKey, PagesDomain}
use Rattle.key_table.specs.Joined.{five}
use Rattle.key_table.proofs.Joins.{put, on_ok}
use Rattle.key_table.proofs.key_map.KeyMap.put.Goals as goal

pub returns-in-OrganizationPath-clause-ok : goal.returns-in-OrganizationPath-clause-ok
returns-in-OrganizationPath-clause-ok g c = on_ok c.put.result c.put.ensures.ok
    (λ is. put (five c.self.inside.organization_paths c.self.inside.routes c.self.inside.addresses c.self.inside.ssh_keys c.self.inside.pages_domains) _ c.self.view_is OrganizationPath c.args.key.bucket c.in-OrganizationPath.is c.into_vec-text.result.items _ c.args.state is
    ∙ ap (λ (v : List ℕ). map.insert c.args.self.now (record { bucket = c.args.key.bucket; value = v }) c.args.state) c.into_vec-text.ensures)

pub returns-in-Route-clause-ok : goal.returns-in-Route-clause-ok
returns-in-Route-clause-ok g c = on_ok c.put-in-Route.result c.put-in-Route.ensures.ok
    (λ is. put (five c.self.inside.organization_paths c.self.inside.routes c.self.inside.addresses c.self.inside.ssh_keys c.self.inside.pages_domains) _ c.self.view_is Route c.args.key.bucket c.in-Route.is c.into_vec-text.result.items _ c.args.state is
    ∙ ap (λ (v : List ℕ). map.insert c.args.self.now (record { bucket = c.args.key.bucket; value = v }) c.args.state) c.into_vec-text.ensures)

pub returns-in-Address-clause-ok : goal.returns-in-Address-clause-ok
returns-in-Address-clause-ok g c = on_ok c.put-in-Address.result c.put-in-Address.ensures.ok
    (λ is. put (five c.self.inside.organization_paths c.self.inside.routes c.self.inside.addresses c.self.inside.ssh_keys c.self.inside.pages_domains) _ c.self.view_is Address c.args.key.bucket c.in-Address.is c.into_vec-text.result.items _ c.args.state is
    ∙ ap (λ (v : List ℕ). map.insert c.args.self.now (record { bucket = c.args.key.bucket; value = v }) c.args.state) c.into_vec-text.ensures)

pub returns-in-SshKey-clause-ok : goal.returns-in-SshKey-clause-ok
returns-in-SshKey-clause-ok g c = on_ok c.put-in-SshKey.result c.put-in-SshKey.ensures.ok
    (λ is. put (five c.self.inside.organization_paths c.self.inside.routes c.self.inside.addresses c.self.inside.ssh_keys c.self.inside.pages_domains) _ c.self.view_is SshKey c.args.key.bucket c.in-SshKey.is c.into_vec-text.result.items _ c.args.state is
    ∙ ap (λ (v : List ℕ). map.insert c.args.self.now (record { bucket = c.args.key.bucket; value = v }) c.args.state) c.into_vec-text.ensures)

pub returns-in-PagesDomain-clause-ok : goal.returns-in-PagesDomain-clause-ok
returns-in-PagesDomain-clause-ok g c = on_ok c.put-in-PagesDomain.result c.put-in-PagesDomain.ensures.ok
    (λ is. put (five c.self.inside.organization_paths c.self.inside.routes c.self.inside.addresses c.self.inside.ssh_keys c.self.inside.pages_domains) _ c.self.view_is PagesDomain c.args.key.bucket c.in-PagesDomain.is c.into_vec-text.result.items _ c.args.state is
    ∙ ap (λ (v : List ℕ). map.insert c.args.self.now (record { bucket = c.args.key.bucket; value = v }) c.args.state) c.into_vec-text.ensures)
