-- The bounds of a line's words.
use Rattle.std.specs.Prelude.{◌≡◌, ℕ, ◌<◌, ◌≤◌, List, length, true, IfSome}
use Rattle.std.specs.List.{list_all}
use Rattle.claim_types.specs.Bounds.{IsCell, IsIdentifier, IsRangeNumber}
use Rattle.cells_script.specs.Words.{is_visible, is_printable}
use Rattle.cells_script.specs.declared.limits.TheConstants.{LINE_BYTES, GREATEST_COUNT}
use Rattle.cells_script.specs.declared.line.Span.{Span}
use Rattle.cells_script.specs.declared.line.Line.{Line}
use Rattle.cells_script.specs.declared.line.Line.TheVariants.{CreateOrganization, CreateUser, CreateTopGroup, CreateGroup, CreateProject, CreateKey, CreateAddress, CreateDomain, Rename, Remove, Range, Reconcile, Verify, ClassifyFirst, ClassifyCell, ClassifySession, ClassifyClaim, ClassifyPath, Route, Lose, Repeat, Wait, RestartService, Restart}

-- a word has a byte, and not too many, and each is visible
pub record IsWord (word : List ℕ) : Type 0 where
  pub some : 0 < length word
  pub not_too_long : length word ≤ LINE_BYTES
  pub visible : list_all is_visible word ≡ true

-- the rest of a line, which may have spaces
pub record IsRest (rest : List ℕ) : Type 0 where
  pub not_too_long : length rest ≤ LINE_BYTES
  pub printable : list_all is_printable rest ≡ true

abbrev pub IsCount : ℕ → Type 0
IsCount n = n ≤ GREATEST_COUNT

-- a part of a bucket, from one identifier to another
pub record IsSpan (span : Span) : Type 0 where
  pub first : IsIdentifier span.first
  pub last : IsIdentifier span.last
  pub in_order : span.first ≤ span.last

-- each word of the line is one, and each number lies within its bounds
abbrev pub IsLine : Line → Type 0
IsLine (CreateOrganization cell name) = IsCell cell × IsWord name
IsLine (CreateUser cell name organization) = IsCell cell × IsWord name × IsWord organization
IsLine (CreateTopGroup cell name organization) = IsCell cell × IsWord name × IsWord organization
IsLine (CreateGroup cell route) = IsCell cell × IsWord route
IsLine (CreateProject cell route) = IsCell cell × IsWord route
IsLine (CreateKey cell user value) = IsCell cell × IsWord user × IsWord value
IsLine (CreateAddress cell user value) = IsCell cell × IsWord user × IsWord value
IsLine (CreateDomain cell route value) = IsCell cell × IsWord route × IsWord value
IsLine (Rename cell bucket value name) = IsCell cell × IsWord value × IsWord name
IsLine (Remove cell bucket value) = IsCell cell × IsWord value
IsLine (Range cell number) = IsCell cell × IfSome number IsRangeNumber
IsLine (Reconcile cell) = IsCell cell
IsLine (Verify cell span) = IsCell cell × IfSome span IsSpan
IsLine ClassifyFirst = Unit {0}
IsLine (ClassifyCell cell) = IsCell cell
IsLine (ClassifySession text) = IsWord text
IsLine (ClassifyClaim bucket value) = IsWord value
IsLine (ClassifyPath text) = IsWord text
IsLine (Route method target cookie) = IsWord method × IsWord target × IfSome cookie IsRest
IsLine (Lose number) = IsCount number
IsLine (Repeat tag) = IsCount tag
IsLine (Wait seconds) = IsCount seconds
IsLine RestartService = Unit {0}
IsLine (Restart cell) = IsCell cell
