use Rattle.claim_types.specs.declared.key.Bucket.TheVariants.{OrganizationPath, Route, Address, SshKey, PagesDomain}
use Rattle.key_table.specs.Joined.{five}
use Rattle.key_table.proofs.Joins.{is_there, put}
use Rattle.key_table.proofs.key_map.KeyMap.change.Goals as goal

pub change-requires : goal.change-requires
change-requires g c = is_there (five c.self.inside.organization_paths c.self.inside.routes c.self.inside.addresses c.self.inside.ssh_keys c.self.inside.pages_domains) _ c.self.view_is OrganizationPath _ c.in-OrganizationPath.is c.args.value.now c.requires

pub returns-in-OrganizationPath : goal.returns-in-OrganizationPath
returns-in-OrganizationPath g c = put (five c.self.inside.organization_paths c.self.inside.routes c.self.inside.addresses c.self.inside.ssh_keys c.self.inside.pages_domains) _ c.self.view_is OrganizationPath _ c.in-OrganizationPath.is c.args.value.now _ c.args.state c.change.ensures

pub change-requires-in-Route : goal.change-requires-in-Route
change-requires-in-Route g c = is_there (five c.self.inside.organization_paths c.self.inside.routes c.self.inside.addresses c.self.inside.ssh_keys c.self.inside.pages_domains) _ c.self.view_is Route _ c.in-Route.is c.args.value.now c.requires

pub returns-in-Route : goal.returns-in-Route
returns-in-Route g c = put (five c.self.inside.organization_paths c.self.inside.routes c.self.inside.addresses c.self.inside.ssh_keys c.self.inside.pages_domains) _ c.self.view_is Route _ c.in-Route.is c.args.value.now _ c.args.state c.change-in-Route.ensures

pub change-requires-in-Address : goal.change-requires-in-Address
change-requires-in-Address g c = is_there (five c.self.inside.organization_paths c.self.inside.routes c.self.inside.addresses c.self.inside.ssh_keys c.self.inside.pages_domains) _ c.self.view_is Address _ c.in-Address.is c.args.value.now c.requires

pub returns-in-Address : goal.returns-in-Address
returns-in-Address g c = put (five c.self.inside.organization_paths c.self.inside.routes c.self.inside.addresses c.self.inside.ssh_keys c.self.inside.pages_domains) _ c.self.view_is Address _ c.in-Address.is c.args.value.now _ c.args.state c.change-in-Address.ensures

pub change-requires-in-SshKey : goal.change-requires-in-SshKey
change-requires-in-SshKey g c = is_there (five c.self.inside.organization_paths c.self.inside.routes c.self.inside.addresses c.self.inside.ssh_keys c.self.inside.pages_domains) _ c.self.view_is SshKey _ c.in-SshKey.is c.args.value.now c.requires

pub returns-in-SshKey : goal.returns-in-SshKey
returns-in-SshKey g c = put (five c.self.inside.organization_paths c.self.inside.routes c.self.inside.addresses c.self.inside.ssh_keys c.self.inside.pages_domains) _ c.self.view_is SshKey _ c.in-SshKey.is c.args.value.now _ c.args.state c.change-in-SshKey.ensures

pub change-requires-in-PagesDomain : goal.change-requires-in-PagesDomain
change-requires-in-PagesDomain g c = is_there (five c.self.inside.organization_paths c.self.inside.routes c.self.inside.addresses c.self.inside.ssh_keys c.self.inside.pages_domains) _ c.self.view_is PagesDomain _ c.in-PagesDomain.is c.args.value.now c.requires

pub returns-in-PagesDomain : goal.returns-in-PagesDomain
returns-in-PagesDomain g c = put (five c.self.inside.organization_paths c.self.inside.routes c.self.inside.addresses c.self.inside.ssh_keys c.self.inside.pages_domains) _ c.self.view_is PagesDomain _ c.in-PagesDomain.is c.args.value.now _ c.args.state c.change-in-PagesDomain.ensures
