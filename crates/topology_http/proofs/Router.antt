-- A router of literal routes finds a path exactly where it is one of them.
use Rattle.std.proofs.Common.{◌≡◌, ℕ, zero, suc, ◌-◌, ◌≤◌, Bool, true, false, cond, ◌&&◌, List, [], ◌∷◌, length, sym, ap, ◌∙◌, refl, arith, rules, Option, Some, None, option_map, map, subst, Result, Ok, Err, OnOk, codes, if◌then◌else◌, eqb, nat_lt}
use Rattle.std.specs.List.{list_all}
use Rattle.std.specs.Str.{IsAscii, IsUtf8, bytes_eq}
use Rattle.std.proofs.lemmas.Str.{IsUtf8-from_ascii}
use Rattle.std.proofs.lemmas.Slice.Eq.{bytes_eq-Decides}
use Rattle.topology_http.specs.declared.fault.HttpFault.{HttpFault}
use Rattle.topology_http.specs.declared.fault.HttpFault.TheVariants.{NoSuchPath}
use Rattle.std.proofs.lemmas.Bool.{ltb-true, ne_eqb}
use Rattle.matchit.specs.Rows.{RowsOf}
use Rattle.matchit.specs.Seek.{step, own, or_else, seek, first, param_step, same_text, has_slash}
use Rattle.matchit.specs.Order.{lookup, placed}
use Rattle.matchit.specs.Route.{Scan, parse_route}
use Rattle.matchit.specs.Router.{RouteOf, InsertsRead}
use Rattle.matchit.specs.declared.error.InsertError.{InsertError}
use Rattle.matchit.proofs.OnLiterals.{matchit_on_literals}
use Rattle.topology_http.specs.declared.ask.Ask.{Ask}
use Rattle.topology_http.specs.declared.ask.Ask.TheVariants as ask
use Rattle.topology_http.specs.Paths.{path_of, asks, among, served, dispatched, dispatch_of, route_of, AreRoutes}

pub and_left : (a b : Bool) → (a && b) ≡ true → a ≡ true
and_left true b h = refl
and_left false b h = h

pub and_right : (a b : Bool) → (a && b) ≡ true → b ≡ true
and_right true b h = h
and_right false b h = absurd (search rules)

module _ {K : Type 0} where
  -- no row has a parameter or a catch-all
  abbrev pub AreLiteral : RowsOf K → Type 0
  AreLiteral [] = Unit {0}
  AreLiteral ((t, key) ∷ rest) = (list_all (λ b. nat_lt b 256) t ≡ true) × AreLiteral rest

  no_rows : (slash : Bool) (n : ℕ) (none : RowsOf K) → none ≡ [] → (cond {A = ℕ × RowsOf K} slash (0, none) (n, none)).1 ≡ []
  no_rows true n none is = is
  no_rows false n none is = is

  param_none : (path : List ℕ) → (param_step {K = K} [] path).1 ≡ []
  unfolding param_step
  param_none path = no_rows (has_slash path) (length path) [] refl

  seek_none : (skip : ℕ) (path : List ℕ) → seek {K = K} skip [] path ≡ None
  unfolding seek
  seek_none skip [] = refl
  seek_none zero (b ∷ path) =
      ap (λ x. or_else x (or_else (seek ((param_step {K = K} [] (b ∷ path)).0 - 1) (param_step {K = K} [] (b ∷ path)).1 path) None)) (seek_none 0 path)
      ∙ ap (λ rows. or_else (seek ((param_step {K = K} [] (b ∷ path)).0 - 1) rows path) None) (param_none (b ∷ path))
      ∙ ap (λ x. or_else x None) (seek_none ((param_step {K = K} [] (b ∷ path)).0 - 1) path)
  seek_none (suc skip) (b ∷ path) = seek_none skip path

  -- no row goes on with a token above the bytes
  step_wild : (token : ℕ) (rows : RowsOf K) → 256 ≤ token → AreLiteral rows → step token rows ≡ []
  step_wild token [] wild all = refl
  step_wild token (([], key) ∷ rest) wild all = step_wild token rest wild all.1
  step_wild token ((x ∷ t, key) ∷ rest) wild all =
      rw (ne_eqb x token (λ e. omega (arith, ltb-true x 256 (and_left (nat_lt x 256) (list_all (λ b. nat_lt b 256) t) all.0)))) (step_wild token rest wild all.1)

  literal_if : (test : Bool) (row : List ℕ × K) (rows : RowsOf K) → list_all (λ b. nat_lt b 256) row.0 ≡ true → AreLiteral rows → AreLiteral (cond test (row ∷ rows) rows)
  literal_if true row rows one all = (one, all)
  literal_if false row rows one all = all

  step_literal : (b : ℕ) (rows : RowsOf K) → AreLiteral rows → AreLiteral (step b rows)
  step_literal b [] all = tt
  step_literal b (([], key) ∷ rest) all = step_literal b rest all.1
  step_literal b ((x ∷ t, key) ∷ rest) all =
      literal_if (eqb x b) (t, key) (step b rest) (and_right (nat_lt x 256) (list_all (λ c. nat_lt c 256) t) all.0) (step_literal b rest all.1)

  lookup_if : (test : Bool) (path t : List ℕ) (key : K) (old : Option K) (rows : RowsOf K) → old ≡ lookup path rows
      → cond (test && same_text t path) (Some key) old ≡ lookup path (cond test ((t, key) ∷ rows) rows)
  lookup_if true path t key old rows is = ap (cond (same_text t path) (Some key)) is
  lookup_if false path t key old rows is = is

  -- looking a path up is looking its rest up in the rows that go on with its first byte
  lookup_step : (b : ℕ) (path : List ℕ) (rows : RowsOf K) → lookup (b ∷ path) rows ≡ lookup path (step b rows)
  lookup_step b path [] = refl
  lookup_step b path (([], key) ∷ rest) = lookup_step b path rest
  lookup_step b path ((x ∷ t, key) ∷ rest) = lookup_if (eqb x b) path t key (lookup (b ∷ path) rest) (step b rest) (lookup_step b path rest)

  lookup_own : (rows : RowsOf K) → own rows ≡ lookup [] rows
  lookup_own [] = refl
  lookup_own (([], key) ∷ rest) = refl
  lookup_own ((x ∷ t, key) ∷ rest) = lookup_own rest

  or_none : (x : Option K) → or_else x None ≡ x
  or_none None = refl
  or_none (Some key) = refl

  pub first_literal : (path : List ℕ) (rows : RowsOf K) → AreLiteral rows → first rows path ≡ lookup path rows
  unfolding seek
  first_literal [] rows all = lookup_own rows
  first_literal (b ∷ path) rows all =
      ap (λ wild. or_else (seek 0 (step b rows) path) (or_else (seek ((param_step wild (b ∷ path)).0 - 1) (param_step wild (b ∷ path)).1 path) (own (step 257 rows)))) (step_wild 256 rows (omega arith) all)
      ∙ ap (λ rs. or_else (seek 0 (step b rows) path) (or_else (seek ((param_step {K = K} [] (b ∷ path)).0 - 1) rs path) (own (step 257 rows)))) (param_none (b ∷ path))
      ∙ ap (λ x. or_else (seek 0 (step b rows) path) (or_else x (own (step 257 rows)))) (seek_none ((param_step {K = K} [] (b ∷ path)).0 - 1) path)
      ∙ ap (λ rs. or_else (seek 0 (step b rows) path) (own rs)) (step_wild 257 rows (omega arith) all)
      ∙ or_none (seek 0 (step b rows) path)
      ∙ first_literal path (step b rows) (step_literal b rows all)
      ∙ sym (lookup_step b path rows)

-- ---- the routes that are served

parses : (a : Ask) → (s : Scan) × (parse_route (path_of a) ≡ Ok s) × (s.pattern ≡ path_of a) × (s.text ≡ path_of a) × (s.names ≡ [])
unfolding matchit_on_literals
parses ask.Begin = (_, refl, refl, refl, refl)
parses ask.Commit = (_, refl, refl, refl, refl)
parses ask.Rollback = (_, refl, refl, refl, refl)
parses ask.List = (_, refl, refl, refl, refl)
parses ask.Range = (_, refl, refl, refl, refl)
parses ask.Claims = (_, refl, refl, refl, refl)
parses ask.Classify = (_, refl, refl, refl, refl)
parses ask.Page = (_, refl, refl, refl, refl)
parses ask.Line = (_, refl, refl, refl, refl)

pub serves : (a : Ask) (old new : RowsOf (RouteOf Ask)) (u : Unit {0}) → InsertsRead (parse_route (path_of a)) a old new (Ok u)
    → new ≡ placed (path_of a, route_of a) old
serves a old new u inserts =
    let p = parses a in
    let q = subst (λ r. InsertsRead r a old new (Ok u)) p.1 inserts in
    q.1 ∙ (λ i. placed (p.2 i, record { pattern = p.2 i; text = p.3 i; names = p.4 i; value = a }) old)

pub serves_any : (a : Ask) (old new : RowsOf (RouteOf Ask)) (r : Result (Unit {0}) InsertError) → InsertsRead (parse_route (path_of a)) a old new r
    → OnOk r (new ≡ placed (path_of a, route_of a) old)
serves_any a old new (Ok u) inserts = serves a old new u inserts
serves_any a old new (Err e) inserts = tt

abbrev pub served_rows : RowsOf (RouteOf Ask)
served_rows = map (λ a. (path_of a, route_of a)) asks

served_literal : AreLiteral served_rows
served_literal = (refl, (refl, (refl, (refl, (refl, (refl, (refl, (refl, (refl, tt)))))))))

looks : (path : List ℕ) (list : List Ask) → option_map (λ r. r.value) (lookup path (map (λ a. (path_of a, route_of a)) list)) ≡ among list path
looks path [] = refl
looks path (a ∷ list) = by_test (same_text (path_of a) path) _ _ (looks path list)
  where
    by_test : (test : Bool) (x : Option (RouteOf Ask)) (y : Option Ask) → option_map (λ r. r.value) x ≡ y
        → option_map (λ r. r.value) (cond test (Some (route_of a)) x) ≡ (if test then Some a else y)
    by_test true x y e = refl
    by_test false x y e = e

pub are_routes : (rows : RowsOf (RouteOf Ask)) → rows ≡ served_rows → AreRoutes rows
are_routes rows is path =
    ap (λ rs. option_map (λ r. r.value) (first rs path)) is
    ∙ ap (option_map (λ r. r.value)) (first_literal path served_rows served_literal)
    ∙ looks path asks

-- served one after the other, they are the rows
pub built : (r s1 s2 s3 s4 s5 s6 s7 s8 s9 : RowsOf (RouteOf Ask)) → r ≡ []
    → s1 ≡ placed (path_of ask.Claims, route_of ask.Claims) r
    → s2 ≡ placed (path_of ask.Classify, route_of ask.Classify) s1
    → s3 ≡ placed (path_of ask.Begin, route_of ask.Begin) s2
    → s4 ≡ placed (path_of ask.Commit, route_of ask.Commit) s3
    → s5 ≡ placed (path_of ask.List, route_of ask.List) s4
    → s6 ≡ placed (path_of ask.Rollback, route_of ask.Rollback) s5
    → s7 ≡ placed (path_of ask.Line, route_of ask.Line) s6
    → s8 ≡ placed (path_of ask.Page, route_of ask.Page) s7
    → s9 ≡ placed (path_of ask.Range, route_of ask.Range) s8
    → s9 ≡ served_rows
built r s1 s2 s3 s4 s5 s6 s7 s8 s9 e0 e1 e2 e3 e4 e5 e6 e7 e8 e9 =
    e9 ∙ ap (placed (path_of ask.Range, route_of ask.Range)) (
    e8 ∙ ap (placed (path_of ask.Page, route_of ask.Page)) (
    e7 ∙ ap (placed (path_of ask.Line, route_of ask.Line)) (
    e6 ∙ ap (placed (path_of ask.Rollback, route_of ask.Rollback)) (
    e5 ∙ ap (placed (path_of ask.List, route_of ask.List)) (
    e4 ∙ ap (placed (path_of ask.Commit, route_of ask.Commit)) (
    e3 ∙ ap (placed (path_of ask.Begin, route_of ask.Begin)) (
    e2 ∙ ap (placed (path_of ask.Classify, route_of ask.Classify)) (
    e1 ∙ ap (placed (path_of ask.Claims, route_of ask.Claims)) e0))))))))

-- ---- a target that is no text

ascii : (bs : List ℕ) → list_all (λ b. nat_lt b 128) bs ≡ true → IsAscii bs
ascii [] all i = omega arith
ascii (b ∷ bs) all zero = ltb-true b 128 (and_left (nat_lt b 128) (list_all (λ c. nat_lt c 128) bs) all)
ascii (b ∷ bs) all (suc i) = ascii bs (and_right (nat_lt b 128) (list_all (λ c. nat_lt c 128) bs) all) i

pub path_text : (a : Ask) → IsUtf8 (path_of a)
path_text ask.Begin = IsUtf8-from_ascii _ (ascii (path_of ask.Begin) refl)
path_text ask.Commit = IsUtf8-from_ascii _ (ascii (path_of ask.Commit) refl)
path_text ask.Rollback = IsUtf8-from_ascii _ (ascii (path_of ask.Rollback) refl)
path_text ask.List = IsUtf8-from_ascii _ (ascii (path_of ask.List) refl)
path_text ask.Range = IsUtf8-from_ascii _ (ascii (path_of ask.Range) refl)
path_text ask.Claims = IsUtf8-from_ascii _ (ascii (path_of ask.Claims) refl)
path_text ask.Classify = IsUtf8-from_ascii _ (ascii (path_of ask.Classify) refl)
path_text ask.Page = IsUtf8-from_ascii _ (ascii (path_of ask.Page) refl)
path_text ask.Line = IsUtf8-from_ascii _ (ascii (path_of ask.Line) refl)

none_among : (list : List Ask) (path : List ℕ) → ¬ (IsUtf8 path) → among list path ≡ None
none_among [] path other = refl
none_among (a ∷ list) path other = by_test (bytes_eq (path_of a) path) refl (none_among list path other)
  where
    by_test : (test : Bool) → bytes_eq (path_of a) path ≡ test → among list path ≡ None → (if test then Some a else among list path) ≡ None
    by_test true same rest = absurd (other (subst IsUtf8 ((bytes_eq-Decides (path_of a) path).0 same) (path_text a)))
    by_test false differs rest = rest

pub no_text : (path : List ℕ) → ¬ (IsUtf8 path) → Err NoSuchPath ≡ dispatched path
unfolding dispatched
no_text path other = sym (ap served (none_among asks path other))

asks_nothing : (test : Bool) (rule : Result Ask HttpFault) → Err NoSuchPath ≡ rule → (if test then rule else Err NoSuchPath) ≡ Err NoSuchPath
asks_nothing true rule is = sym is
asks_nothing false rule is = refl

pub no_dispatch : (method target : List ℕ) → ¬ (IsUtf8 target) → dispatch_of method target ≡ Err NoSuchPath
no_dispatch method target other = asks_nothing (bytes_eq method (codes "POST")) (dispatched target) (no_text target other)
