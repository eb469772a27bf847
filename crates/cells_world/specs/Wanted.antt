-- The change that a line of a script asks for.
use Rattle.std.specs.Prelude.{ℕ, ◌-◌, ◌==◌, List, length, take, drop, map, Option, Some, None, unwrap_or, option_map, Result, Ok, Err, reverse, position}
use Rattle.std.specs.Char.{to_ascii_lowercase}
use Rattle.claim_types.specs.Keys.{key_of}
use Rattle.claim_types.specs.declared.key.Bucket.{Bucket}
use Rattle.claim_types.specs.declared.key.Bucket.TheVariants.{OrganizationPath, Route}
use Rattle.claim_types.specs.declared.key.ClaimKey.{ClaimKey}
use Rattle.claim_types.specs.declared.key.KeyFault.{KeyFault}
use Rattle.claim_types.specs.declared.record.Change.{Change}
use Rattle.claim_types.specs.declared.record.Change.TheVariants.{Create, Rename as RenameRecord, Remove as RemoveRecord}
use Rattle.claim_types.specs.declared.record.Kind.{Kind}
use Rattle.claim_types.specs.declared.record.Kind.TheVariants.{Organization, Group, Project, User, Key, Address, Domain}
use Rattle.claim_map.specs.Claims.{claims_of}
use Rattle.claim_map.specs.State.{Tree}
use Rattle.record_tree.specs.Refusals.{claimant}
use Rattle.cells_script.specs.declared.line.Line.{Line}
use Rattle.cells_script.specs.declared.line.Line.TheVariants.{CreateOrganization, CreateUser, CreateTopGroup, CreateGroup, CreateProject, CreateKey, CreateAddress, CreateDomain, Rename, Remove}

-- the record that claims what a text names in a bucket; 0 where the text is no key of it, or no record claims it
abbrev pub record_with : Tree → Result ClaimKey KeyFault → ℕ
record_with tree (Ok key) = unwrap_or (claimant (claims_of tree) key) 0
record_with tree (Err fault) = 0

abbrev pub record_named : Tree → Bucket → List ℕ → ℕ
record_named tree bucket text = record_with tree (key_of bucket text)

-- a name in small letters
abbrev pub name_of : List ℕ → List ℕ
name_of text = map to_ascii_lowercase text

-- the place behind the last slash of a route, if it has one
abbrev pub behind_last_slash : List ℕ → Option ℕ
behind_last_slash route = option_map (λ k. length route - k) (position (λ b. b == 47) (reverse route))

-- the record above a route, by what stands before its last slash; 0 where it has none
abbrev pub parent_at : Tree → List ℕ → Option ℕ → ℕ
parent_at tree route (Some at) = record_named tree Route (take (at - 1) route)
parent_at tree route None = 0

-- the name that ends a route
abbrev pub last_name : List ℕ → Option ℕ → List ℕ
last_name route (Some at) = name_of (drop at route)
last_name route None = name_of route

-- a record of this kind is created at a route: below what stands before its last slash
abbrev pub created_at : Tree → Kind → List ℕ → Change
created_at tree kind route = Create kind (parent_at tree route (behind_last_slash route)) (last_name route (behind_last_slash route))

-- The change that a line asks of this tree, if it asks for one: names are looked up in the claims of the tree.
abbrev pub change_wanted : Line → Tree → Option Change
change_wanted (CreateOrganization cell name) tree = Some (Create Organization 0 (name_of name))
change_wanted (CreateUser cell name organization) tree = Some (Create User (record_named tree OrganizationPath organization) (name_of name))
change_wanted (CreateTopGroup cell name organization) tree = Some (Create Group (record_named tree OrganizationPath organization) (name_of name))
change_wanted (CreateGroup cell route) tree = Some (created_at tree Group route)
change_wanted (CreateProject cell route) tree = Some (created_at tree Project route)
change_wanted (CreateKey cell user value) tree = Some (Create Key (record_named tree Route user) (name_of value))
change_wanted (CreateAddress cell user value) tree = Some (Create Address (record_named tree Route user) (name_of value))
change_wanted (CreateDomain cell route value) tree = Some (Create Domain (record_named tree Route route) (name_of value))
change_wanted (Rename cell bucket value name) tree = Some (RenameRecord (record_named tree bucket value) (name_of name))
change_wanted (Remove cell bucket value) tree = Some (RemoveRecord (record_named tree bucket value))
change_wanted other tree = None
