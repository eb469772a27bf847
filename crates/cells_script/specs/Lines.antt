-- The lines of a script, by their words.
use Rattle.std.specs.Prelude.{ℕ, if◌then◌else◌, List, [], ◌∷◌, codes, Option, Some, None}
use Rattle.std.specs.Str.{bytes_eq}
use Rattle.claim_types.specs.Names.{named_bucket}
use Rattle.claim_types.specs.declared.limits.TheConstants.{GREATEST_IDENTIFIER, GREATEST_NUMBER}
use Rattle.cells_script.specs.Words.{is_made_of_words, words_in, after_three_words}
use Rattle.cells_script.specs.Numbers.{number_in, cell_in}
use Rattle.cells_script.specs.declared.limits.TheConstants.{GREATEST_COUNT}
use Rattle.cells_script.specs.declared.line.Span.{Span}
use Rattle.cells_script.specs.declared.line.Line.{Line}
use Rattle.cells_script.specs.declared.line.Line.TheVariants.{CreateOrganization, CreateUser, CreateTopGroup, CreateGroup, CreateProject, CreateKey, CreateAddress, CreateDomain, Rename, Remove, Range, Reconcile, Verify, ClassifyFirst, ClassifyCell, ClassifySession, ClassifyClaim, ClassifyPath, Route, Lose, Repeat, Wait, RestartService, Restart}

-- what comes of a part of a line, where it is one
infixl 10 ◌>>=◌
abbrev pub ◌>>=◌ : {A B : Type 0} → Option A → (A → Option B) → Option B
None >>= f = None
(Some x) >>= f = f x

-- what is created by one word, and what by two
abbrev pub create_one : ℕ → List ℕ → List ℕ → Option Line
create_one cell kind word =
    if bytes_eq kind (codes "organization") then Some (CreateOrganization cell word)
    else if bytes_eq kind (codes "group") then Some (CreateGroup cell word)
    else if bytes_eq kind (codes "project") then Some (CreateProject cell word)
    else None

abbrev pub create_two : ℕ → List ℕ → List ℕ → List ℕ → Option Line
create_two cell kind first second =
    if bytes_eq kind (codes "user") then Some (CreateUser cell first second)
    else if bytes_eq kind (codes "group") then Some (CreateTopGroup cell first second)
    else if bytes_eq kind (codes "key") then Some (CreateKey cell first second)
    else if bytes_eq kind (codes "address") then Some (CreateAddress cell first second)
    else if bytes_eq kind (codes "domain") then Some (CreateDomain cell first second)
    else None

-- `create C KIND WORD`, `create C KIND WORD WORD`
abbrev pub create_line : List (List ℕ) → Option Line
create_line (cell ∷ kind ∷ word ∷ []) = cell_in cell >>= λ c. create_one c kind word
create_line (cell ∷ kind ∷ first ∷ second ∷ []) = cell_in cell >>= λ c. create_two c kind first second
create_line words = None

-- `rename C BUCKET VALUE NAME`
abbrev pub rename_line : List (List ℕ) → Option Line
rename_line (cell ∷ bucket ∷ value ∷ name ∷ []) = cell_in cell >>= λ c. named_bucket bucket >>= λ b. Some (Rename c b value name)
rename_line words = None

-- `remove C BUCKET VALUE`
abbrev pub remove_line : List (List ℕ) → Option Line
remove_line (cell ∷ bucket ∷ value ∷ []) = cell_in cell >>= λ c. named_bucket bucket >>= λ b. Some (Remove c b value)
remove_line words = None

-- `range C`, `range C NUMBER`
abbrev pub range_line : List (List ℕ) → Option Line
range_line (cell ∷ []) = cell_in cell >>= λ c. Some (Range c None)
range_line (cell ∷ number ∷ []) = cell_in cell >>= λ c. number_in 1 GREATEST_NUMBER number >>= λ n. Some (Range c (Some n))
range_line words = None

-- `reconcile C`
abbrev pub reconcile_line : List (List ℕ) → Option Line
reconcile_line (cell ∷ []) = cell_in cell >>= λ c. Some (Reconcile c)
reconcile_line words = None

-- `BUCKET FIRST LAST`
abbrev pub span_in : List ℕ → List ℕ → List ℕ → Option Span
span_in bucket first last =
    named_bucket bucket >>= λ b.
    number_in 1 GREATEST_IDENTIFIER first >>= λ low.
    number_in low GREATEST_IDENTIFIER last >>= λ high.
    Some (record { bucket = b; first = low; last = high })

-- `verify C`, `verify C BUCKET FIRST LAST`
abbrev pub verify_line : List (List ℕ) → Option Line
verify_line (cell ∷ []) = cell_in cell >>= λ c. Some (Verify c None)
verify_line (cell ∷ bucket ∷ first ∷ last ∷ []) = cell_in cell >>= λ c. span_in bucket first last >>= λ span. Some (Verify c (Some span))
verify_line words = None

-- `classify first`, `classify cell C`, `classify session TEXT`, `classify path TEXT`, `classify claim BUCKET VALUE`
abbrev pub classify_by : List ℕ → Option Line
classify_by by = if bytes_eq by (codes "first") then Some ClassifyFirst else None

abbrev pub classify_one : List ℕ → List ℕ → Option Line
classify_one by word =
    if bytes_eq by (codes "cell") then (cell_in word >>= λ c. Some (ClassifyCell c))
    else if bytes_eq by (codes "session") then Some (ClassifySession word)
    else if bytes_eq by (codes "path") then Some (ClassifyPath word)
    else None

abbrev pub classify_two : List ℕ → List ℕ → List ℕ → Option Line
classify_two by bucket value = if bytes_eq by (codes "claim") then (named_bucket bucket >>= λ b. Some (ClassifyClaim b value)) else None

abbrev pub classify_line : List (List ℕ) → Option Line
classify_line (by ∷ []) = classify_by by
classify_line (by ∷ word ∷ []) = classify_one by word
classify_line (by ∷ bucket ∷ value ∷ []) = classify_two by bucket value
classify_line words = None

abbrev pub route : List ℕ → List ℕ → Option (List ℕ) → Option Line
route method target cookie = Some (Route method target cookie)

-- `route METHOD TARGET`, `route METHOD TARGET COOKIE`
abbrev pub route_line : List ℕ → List (List ℕ) → Option Line
route_line cookie (method ∷ target ∷ []) = route method target None
route_line cookie (method ∷ target ∷ word ∷ more) = route method target (Some cookie)
route_line cookie words = None

-- the one number of `lose K`, `repeat T` and `wait N`
abbrev pub count_in : List (List ℕ) → Option ℕ
count_in (count ∷ []) = number_in 0 GREATEST_COUNT count
count_in words = None

abbrev pub count_line : List ℕ → List (List ℕ) → Option Line
count_line verb words = count_in words >>= λ n.
    if bytes_eq verb (codes "lose") then Some (Lose n)
    else if bytes_eq verb (codes "repeat") then Some (Repeat n)
    else if bytes_eq verb (codes "wait") then Some (Wait n)
    else None

-- `restart service`, `restart C`
abbrev pub restart : List ℕ → Option Line
restart node = if bytes_eq node (codes "service") then Some RestartService else (cell_in node >>= λ c. Some (Restart c))

abbrev pub restart_line : List (List ℕ) → Option Line
restart_line (node ∷ []) = restart node
restart_line words = None

-- the line with this first word and these others: one about a node, the packets or the clock, or any other
abbrev pub node_line : List ℕ → List (List ℕ) → Option Line
node_line verb words =
    if bytes_eq verb (codes "range") then range_line words
    else if bytes_eq verb (codes "reconcile") then reconcile_line words
    else if bytes_eq verb (codes "verify") then verify_line words
    else if bytes_eq verb (codes "restart") then restart_line words
    else count_line verb words

abbrev pub by_verb : List ℕ → List ℕ → List (List ℕ) → Option Line
by_verb cookie verb words =
    if bytes_eq verb (codes "create") then create_line words
    else if bytes_eq verb (codes "rename") then rename_line words
    else if bytes_eq verb (codes "remove") then remove_line words
    else if bytes_eq verb (codes "classify") then classify_line words
    else if bytes_eq verb (codes "route") then route_line cookie words
    else node_line verb words

abbrev pub line_with : List ℕ → List (List ℕ) → Option Line
line_with cookie [] = None
line_with cookie (verb ∷ words) = by_verb cookie verb words

-- the line that a text is, if it is one
unfoldable pub line_of : List ℕ → Option Line
line_of text = if is_made_of_words text then line_with (after_three_words text) (words_in text) else None
