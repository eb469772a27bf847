-- The claims of a whole tree after a change, and the operations that lead to them.
use Rattle.std.proofs.Common.{◌≡◌, ◌≢◌, ℕ, ◌<◌, ◌≤◌, Bool, true, false, cond, nat_eq, List, [], ◌∷◌, ◌++◌, map, Option, Some, None, refl, sym, ◌∙◌, ap, arith}
use Rattle.std.specs.Char.{to_ascii_lowercase}
use Rattle.std.proofs.lemmas.Bool.Decides.{Decides-eqb}
use Rattle.std.proofs.lemmas.List.{append_cancel_left, map-append}
use Rattle.claim_types.specs.Order.{create_eq}
use Rattle.claim_types.specs.declared.operations.Create.{Create}
use Rattle.claim_types.specs.declared.record.Record.{Record}
use Rattle.claim_map.specs.Records.{renamed}
use Rattle.claim_map.specs.Trees.{AreAscending}
use Rattle.claim_map.specs.Claims.{continues_route, route_of, route_below, text_of, claim_of_record, claims_from, operations_between}
use Rattle.record_tree.specs.Fresh.{fresh, UpTo}
use Rattle.record_tree.specs.Moved.{moved_among, operations_of_moved}
use Rattle.record_tree.proofs.Fresh.{up_to_push, up_to_more, fresh_same}
use Rattle.record_tree.proofs.Looks.{route_other}
use Rattle.record_tree.proofs.Moves.{lower, lower_lower, stays, Moving, moved_moving, fresh_moves, gone_moves}
use Rattle.record_tree.proofs.Renames.{other_value, claim_with, Walked, walk, last_of}
use Rattle.cells_base.proofs.Truth.{not_true}

-- records one after the other
pub claims_append : (e : List Create) (rs qs : List Record) → claims_from e (rs ++ qs) ≡ claims_from (claims_from e rs) qs
claims_append e [] qs = refl
claims_append e (r ∷ rs) qs = claims_append (e ++ claim_of_record e r ∷ []) rs qs

pub ascending_split : (last : ℕ) (rs qs : List Record) → AreAscending last (rs ++ qs) → AreAscending last rs × AreAscending (last_of last rs) qs
ascending_split last [] qs up = (tt, up)
ascending_split last (r ∷ rs) qs up = let more = ascending_split r.id rs qs up.1 in ((up.0, more.0), more.1)

pub up_to_claims : (last : ℕ) (e : List Create) (rs : List Record) → UpTo last e → AreAscending last rs → UpTo (last_of last rs) (claims_from e rs)
up_to_claims last e [] up ascending = up
up_to_claims last e (r ∷ rs) up ascending =
    let lt = ascending.0 in
    up_to_claims r.id (e ++ claim_of_record e r ∷ []) rs (up_to_push r.id e (claim_of_record e r) (up_to_more last r.id e (omega (arith, lt)) up) (omega arith)) ascending.1

-- records behind change no route of those before
pub route_behind : (last : ℕ) (e : List Create) (rs : List Record) (id : ℕ) → AreAscending last rs → id ≤ last → route_of (claims_from e rs) id ≡ route_of e id
route_behind last e [] id up le = refl
route_behind last e (r ∷ rs) id up le =
    let lt = up.0 in
    route_behind r.id (e ++ claim_of_record e r ∷ []) rs id up.1 (omega (arith, lt, le))
    ∙ route_other e (claim_of_record e r) id (λ e. omega (arith, lt, le, e))

-- a claim hangs on the route of the parent alone
pub claim_by_route : (a b : List Create) (r : Record) → route_of a r.parent ≡ route_of b r.parent → claim_of_record a r ≡ claim_of_record b r
claim_by_route a b r e = ap (λ o. claim_with r (cond (continues_route r.kind) (route_below o r.name) r.name)) e

module _ (x : ℕ) (name : List ℕ) where
  not_this : (n : ℕ) → n ≢ x → nat_eq n x ≡ false
  not_this n apart = not_true (nat_eq n x) (λ h. apart ((Decides-eqb n x).0 h))

  other_stays : (r : Record) → r.id ≢ x → renamed x name r ≡ r
  other_stays r apart = ap (λ b. cond b (record r { name = name }) r) (not_this r.id apart)

  this_renamed : (r : Record) → r.id ≡ x → renamed x name r ≡ record r { name = name }
  this_renamed r e = ap (λ b. cond b (record r { name = name }) r) ((Decides-eqb r.id x).1 e)

  pub behind_stays : (last : ℕ) (rs : List Record) → AreAscending last rs → x ≤ last → map (renamed x name) rs ≡ rs
  behind_stays last [] up le = refl
  behind_stays last (r ∷ rs) up le =
      let lt = up.0 in
      ap (λ q. q ∷ map (renamed x name) rs) (other_stays r (λ e. omega (arith, lt, le, e)))
      ∙ ap (λ qs. r ∷ qs) (behind_stays r.id rs up.1 (omega (arith, lt, le)))

  pub front_stays : (last : ℕ) (rs : List Record) → AreAscending last rs → last_of last rs < x → map (renamed x name) rs ≡ rs
  front_stays last [] up lt = refl
  front_stays last (r ∷ rs) up lt =
      let le = last_least r.id rs up.1 in
      ap (λ q. q ∷ map (renamed x name) rs) (other_stays r (λ e. omega (arith, lt, le, e)))
      ∙ ap (λ qs. r ∷ qs) (front_stays r.id rs up.1 lt)
    where
      last_least : (last : ℕ) (rs : List Record) → AreAscending last rs → last ≤ last_of last rs
      last_least last [] up = omega arith
      last_least last (r ∷ rs) up = let lt = up.0 in let le = last_least r.id rs up.1 in omega (arith, lt, le)

-- a list of records with one of them in the middle
module _ (front rest : List Record) (r : Record) (up : AreAscending 0 (front ++ (r ∷ rest))) (name : List ℕ) where
  abbrev e : List Create
  e = claims_from [] front

  abbrev last : ℕ
  last = last_of 0 front

  parts : AreAscending 0 front × AreAscending last (r ∷ rest)
  parts = ascending_split 0 front (r ∷ rest) up

  abbrev q : Record
  q = record r { name = name }

  pub renamed_records : map (renamed r.id name) (front ++ (r ∷ rest)) ≡ front ++ (record r { name = name } ∷ rest)
  renamed_records =
      map-append (renamed r.id name) front (r ∷ rest)
      ∙ ap (λ xs. xs ++ (renamed r.id name r ∷ map (renamed r.id name) rest)) (front_stays r.id name 0 front parts.0 parts.1.0)
      ∙ ap (λ y. front ++ (y ∷ map (renamed r.id name) rest)) (this_renamed r.id name r refl)
      ∙ ap (λ ys. front ++ (record r { name = name } ∷ ys)) (behind_stays r.id name r.id rest parts.1.1 (omega arith))

  -- what the walk from its record on has found at its end
  pub renamed_walked : lower r.name ≢ lower name → Walked (last_of r.id rest) (claims_from e (r ∷ rest)) (claims_from e (q ∷ rest)) (moved_among (record { before = claim_of_record e r ∷ []; afterwards = claim_of_record e q ∷ [] }) rest)
  renamed_walked apart = walk r.id (e ++ claim_of_record e r ∷ []) (e ++ claim_of_record e q ∷ []) (record { before = claim_of_record e r ∷ []; afterwards = claim_of_record e q ∷ [] }) rest first parts.1.1
    where
      texts : (b : Bool) (o : Option (List ℕ)) → lower (cond b (route_below o r.name) r.name) ≡ lower (cond b (route_below o name) name) → lower r.name ≡ lower name
      texts true None same = same
      texts true (Some u) same =
          let whole : lower u ++ lower (47 ∷ r.name) ≡ lower u ++ lower (47 ∷ name) = sym (map-append to_ascii_lowercase u (47 ∷ r.name)) ∙ same ∙ map-append to_ascii_lowercase u (47 ∷ name) in
          tail (append_cancel_left (lower u) (lower (47 ∷ r.name)) (lower (47 ∷ name)) whole)
        where
          tail : 47 ∷ lower r.name ≡ 47 ∷ lower name → lower r.name ≡ lower name
          tail h = cc
      texts false o same = same

      differ : lower (claim_of_record e r).key.value ≢ lower (claim_of_record e q).key.value
      differ same = apart (texts (continues_route r.kind) (route_of e r.parent) (sym (lower_lower (text_of e r)) ∙ same ∙ lower_lower (text_of e q)))

      up_e : UpTo last e
      up_e = up_to_claims 0 [] front tt parts.0

      none : fresh e e ≡ []
      none = fresh_same e

      moving : Moving last e e
      moving = record { up = up_e; up_after = up_e; routes = λ id. stays refl (ap (λ xs. route_of xs id) none) }

      ne : create_eq (claim_of_record e r) (claim_of_record e q) ≡ false
      ne = other_value (claim_of_record e r) (claim_of_record e q) differ

      ne' : create_eq (claim_of_record e q) (claim_of_record e r) ≡ false
      ne' = other_value (claim_of_record e q) (claim_of_record e r) (λ h. differ (sym h))

      first : Walked r.id (e ++ claim_of_record e r ∷ []) (e ++ claim_of_record e q ∷ []) (record { before = claim_of_record e r ∷ []; afterwards = claim_of_record e q ∷ [] })
      first = record {
        moving = moved_moving last e e moving (claim_of_record e r) (claim_of_record e q) parts.1.0 refl refl differ ne ne';
        new = fresh_moves last e e moving (claim_of_record e r) (claim_of_record e q) parts.1.0 parts.1.0 ne ∙ ap (λ xs. xs ++ claim_of_record e q ∷ []) none;
        old = gone_moves last e e moving (claim_of_record e r) (claim_of_record e q) parts.1.0 parts.1.0 ne' ∙ ap (λ xs. xs ++ claim_of_record e r ∷ []) none;
      }

  -- the operations of a rename to another name: those of the walk from its record on
  pub rename_operations : lower r.name ≢ lower name →
      operations_between (claims_from [] (front ++ (r ∷ rest))) (claims_from [] (map (renamed r.id name) (front ++ (r ∷ rest))))
      ≡ operations_of_moved (moved_among (record { before = claim_of_record (claims_from [] front) r ∷ []; afterwards = claim_of_record (claims_from [] front) (record r { name = name }) ∷ [] }) rest)
  unfolding operations_between
  rename_operations apart =
      ap (λ rs. operations_between (claims_from [] (front ++ (r ∷ rest))) (claims_from [] rs)) renamed_records
      ∙ ap (λ c. operations_between c (claims_from [] (front ++ (q ∷ rest)))) (claims_append [] front (r ∷ rest))
      ∙ ap (λ d. operations_between (claims_from e (r ∷ rest)) d) (claims_append [] front (q ∷ rest))
      ∙ (λ i. record { creates = (renamed_walked apart).new i; destroys = map (λ (c : Create). c.key) ((renamed_walked apart).old i) })
