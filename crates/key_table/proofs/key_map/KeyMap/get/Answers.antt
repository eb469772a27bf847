use Rattle.claim_types.specs.declared.key.Bucket.TheVariants.{OrganizationPath, Route, Address, SshKey, PagesDomain}
use Rattle.key_table.specs.Joined.{five}
use Rattle.key_table.proofs.Joins.{got}
use Rattle.key_table.proofs.key_map.KeyMap.get.Goals as goal

pub returns-in-OrganizationPath : goal.returns-in-OrganizationPath
returns-in-OrganizationPath g c = got (five c.self.inside.organization_paths c.self.inside.routes c.self.inside.addresses c.self.inside.ssh_keys c.self.inside.pages_domains) _ c.self.view_is OrganizationPath _ c.in-OrganizationPath.is c.args.value.now _ c.get.ensures

pub returns-in-Route : goal.returns-in-Route
returns-in-Route g c = got (five c.self.inside.organization_paths c.self.inside.routes c.self.inside.addresses c.self.inside.ssh_keys c.self.inside.pages_domains) _ c.self.view_is Route _ c.in-Route.is c.args.value.now _ c.get-in-Route.ensures

pub returns-in-Address : goal.returns-in-Address
returns-in-Address g c = got (five c.self.inside.organization_paths c.self.inside.routes c.self.inside.addresses c.self.inside.ssh_keys c.self.inside.pages_domains) _ c.self.view_is Address _ c.in-Address.is c.args.value.now _ c.get-in-Address.ensures

pub returns-in-SshKey : goal.returns-in-SshKey
returns-in-SshKey g c = got (five c.self.inside.organization_paths c.self.inside.routes c.self.inside.addresses c.self.inside.ssh_keys c.self.inside.pages_domains) _ c.self.view_is SshKey _ c.in-SshKey.is c.args.value.now _ c.get-in-SshKey.ensures

pub returns-in-PagesDomain : goal.returns-in-PagesDomain
returns-in-PagesDomain g c = got (five c.self.inside.organization_paths c.self.inside.routes c.self.inside.addresses c.self.inside.ssh_keys c.self.inside.pages_domains) _ c.self.view_is PagesDomain _ c.in-PagesDomain.is c.args.value.now _ c.get-in-PagesDomain.ensures
