-- An entry that is legal in its turn leaves the service within bounds, and one body more is one entry more.
use Rattle.std.proofs.Common.{◌≡◌, ℕ, ◌+◌, ◌<◌, ◌≤◌, Bool, true, false, cond, List, [], ◌∷◌, ◌++◌, length, take, get_or, map, Option, Some, None, is_some, is_none, unwrap_or, inl, inr, refl, sym, ◌∙◌, ap, subst, arith}
use Rattle.std.specs.List.{AllByRecursion}
use Rattle.std.specs.FinMap as finmap
use Rattle.std.proofs.lemmas.Bool.Decides.{Decides-eqb}
use Rattle.std.proofs.lemmas.List.Elements.{All-nil, All-push}
use Rattle.std.proofs.lemmas.Option.{same_Some}
use Rattle.std.proofs.lemmas.List.{take_more}
use Rattle.std.specs.Option.{option_or}
use Rattle.cells_base.specs.Options.{◌or_else◌}
use Rattle.cells_base.proofs.Members.{here_or_later, nowhere}
use Rattle.claim_types.specs.Bounds.{IsCell, IsRange}
use Rattle.claim_types.specs.EntryBounds.{IsServiceEntry}
use Rattle.claim_types.specs.MessageBounds.{IsRequest}
use Rattle.claim_types.specs.declared.cell.Cell.{Cell}
use Rattle.claim_types.specs.declared.lease.How.{How}
use Rattle.claim_types.specs.declared.lease.How.TheVariants.{Committed as AsCommitted, RolledBack as AsRolledBack}
use Rattle.claim_types.specs.declared.operations.Operations.{Operations}
use Rattle.claim_types.specs.declared.entry.ServiceEntry.{ServiceEntry}
use Rattle.claim_types.specs.declared.entry.ServiceEntry.TheVariants.{Begun, Settled, Given}
use Rattle.claim_types.specs.declared.message.Request.{Request}
use Rattle.claim_types.specs.declared.message.Request.TheVariants.{Begin, Commit, Rollback}
use Rattle.claim_types.specs.declared.message.Reply.TheVariants.{NoCell}
use Rattle.claim_types.specs.declared.verdict.Verdict.{Verdict}
use Rattle.claim_types.specs.declared.verdict.Verdict.TheVariants.{Fresh, Again, Refused}
use Rattle.claim_map.specs.Bounds.{AreCells, IsWithinBounds}
use Rattle.claim_map.specs.Due.{Due, due, begin_due, commit_due, rollback_due, told}
use Rattle.claim_map.specs.Ranges.{follows}
use Rattle.claim_map.specs.Registry.{Registry, cell_of}
use Rattle.claim_map.specs.Step.{after_any}
use Rattle.claim_map.specs.Verdict.{verdict_of}
use Rattle.claim_map.proofs.Bounded.{due_bounds, opening_bounds}
use Rattle.claim_map.proofs.Ranges.{AreRanges-push}
use Rattle.claim_laws.specs.Files.{Service, map_of, is_fresh, where_legal, service_turn, service_in, empty_service, and_then}
use Rattle.claim_laws.proofs.Turns.{folded_push}
use Rattle.entry_codec.specs.Spelling.{service_entry_bytes}
use Rattle.claim_service.specs.Opening.{IsEntered, IsReplay, cell_named, first_lacking, lacked}

-- a configuration of one cell
abbrev one_cell : ℕ → Registry
one_cell cell = record { cells = record { id = cell; prefix = []; width = 1 } ∷ []; threshold = 1 }

one_cell_is : (cell : ℕ) → IsCell cell → AreCells (one_cell cell)
one_cell_is cell is = record {
  ids = λ c among. elim (here_or_later _ [] c among) [ inl same ↦ subst (λ (x : Cell). IsCell x.id) same is | inr later ↦ absurd (nowhere c later) ];
  widths = λ c among. elim (here_or_later _ [] c among) [ inl same ↦ subst (λ (x : Cell). 1 ≤ x.width) same (omega arith) | inr later ↦ absurd (nowhere c later) ];
}

it_knows : (cell : ℕ) → is_some (cell_of (one_cell cell) cell) ≡ true
it_knows cell = let only : Cell = record { id = cell; prefix = []; width = 1 } in ap (λ b. is_some (cond b (Some only) None)) ((Decides-eqb cell cell).1 refl)

-- a state that is there only where a condition holds
is_legal : {S : Type 0} (b : Bool) (s t : S) → where_legal b s ≡ Some t → (b ≡ true) × (s ≡ t)
is_legal true s t h = (refl, same_Some s t h)
is_legal false s t h = absurd cc

module _ (s : Service) (now : IsWithinBounds (map_of s)) where
  -- what is due to a request of a cell that there is leaves it within bounds
  known : (cell : ℕ) (request : Request) (d : Due) → IsCell cell → IsRequest request → due (one_cell cell) (map_of s) request ≡ d → IsWithinBounds (after_any (map_of s) d.step)
  known cell request d of is same = subst (λ (x : Due). IsWithinBounds (after_any (map_of s) x.step)) same (due_bounds (one_cell cell) (map_of s) request (one_cell_is cell of) now is).1

  in_cell : (cell : ℕ) (d : Due) → cond (is_some (cell_of (one_cell cell) cell)) d (told (NoCell cell)) ≡ d
  in_cell cell d = ap (λ b. cond b d (told (NoCell cell))) (it_knows cell)

  fresh_is : (v : Verdict) → is_fresh v ≡ true → v ≡ Fresh
  fresh_is Fresh h = refl
  fresh_is Again h = absurd cc
  fresh_is (Refused reason) h = absurd cc

  there : (o : Option Operations) → is_some o ≡ true → (ops : Operations) × (o ≡ Some ops)
  there (Some ops) h = (ops, refl)
  there None h = absurd cc

  not_there : (o : Option How) → is_none o ≡ true → o ≡ None
  not_there None h = refl
  not_there (Some how) h = absurd cc

  pub turn_bounds : (e : ServiceEntry) (t : Service) → IsServiceEntry e → service_turn s e ≡ Some t → IsWithinBounds (map_of t)
  turn_bounds (Begun lease ops) t is turns =
      let legal = is_legal (is_fresh (verdict_of s.leases s.ranges lease ops)) _ t turns in
      let fresh = fresh_is (verdict_of s.leases s.ranges lease ops) legal.0 in
      subst (λ (x : Service). IsWithinBounds (map_of x)) legal.1
      (known lease.cell (Begin lease ops) (begin_due lease ops Fresh) (is.0.cell_least, is.0.cell_most) (is.0, is.1.bounds)
      (in_cell lease.cell (begin_due lease ops (verdict_of s.leases s.ranges lease ops)) ∙ ap (begin_due lease ops) fresh))
  turn_bounds (Settled lease AsCommitted) t is turns =
      let legal = is_legal (is_some (finmap.get s.leases.open_leases lease)) _ t turns in
      let open_with = there (finmap.get s.leases.open_leases lease) legal.0 in
      let how = finmap.get s.leases.settled lease in
      let b = known lease.cell (Commit lease) (commit_due lease (Some open_with.0) how) (is.cell_least, is.cell_most) is
      (in_cell lease.cell (commit_due lease (finmap.get s.leases.open_leases lease) how) ∙ ap (λ o. commit_due lease o how) open_with.1) in
      subst (λ (x : Service). IsWithinBounds (map_of x)) legal.1
      (record { holder = b.holder; open_leases = b.open_leases; operations = b.operations; settled = b.settled; ranges = b.ranges; in_order = b.in_order })
  turn_bounds (Settled lease AsRolledBack) t is turns =
      let legal = is_legal (is_none (finmap.get s.leases.settled lease)) _ t turns in
      let none = not_there (finmap.get s.leases.settled lease) legal.0 in
      subst (λ (x : Service). IsWithinBounds (map_of x)) legal.1
      (known lease.cell (Rollback lease) (rollback_due lease None) (is.cell_least, is.cell_most) is
      (in_cell lease.cell (rollback_due lease (finmap.get s.leases.settled lease)) ∙ ap (rollback_due lease) none))
  turn_bounds (Given range) t is turns =
      let legal = is_legal (follows s.ranges range) _ t turns in
      subst (λ (x : Service). IsWithinBounds (map_of x)) legal.1 (record {
        holder = now.holder;
        open_leases = now.open_leases;
        operations = now.operations;
        settled = now.settled;
        ranges = All-push IsRange s.ranges range now.ranges is;
        in_order = AreRanges-push s.ranges range now.in_order legal.0;
      })

-- one entry more
map_push : (es : List ServiceEntry) (e : ServiceEntry) → map service_entry_bytes (es ++ e ∷ []) ≡ map service_entry_bytes es ++ service_entry_bytes e ∷ []
map_push [] e = refl
map_push (x ∷ es) e = ap (λ bs. service_entry_bytes x ∷ bs) (map_push es e)

all_push : (es : List ServiceEntry) (e : ServiceEntry) → AllByRecursion IsServiceEntry es → IsServiceEntry e → AllByRecursion IsServiceEntry (es ++ e ∷ [])
all_push [] e all is = (is, tt)
all_push (x ∷ es) e all is = (all.0, all_push es e all.1 is)

lacking_push : (registry : Registry) (es : List ServiceEntry) (e : ServiceEntry) → first_lacking registry (es ++ e ∷ []) ≡ (first_lacking registry es or_else lacked registry (cell_named e))
lacking_push registry [] e = refl
lacking_push registry (x ∷ es) e = go (is_none (cell_of registry (cell_named x))) (lacking_push registry es e)
  where
    go : (b : Bool) → first_lacking registry (es ++ e ∷ []) ≡ (first_lacking registry es or_else lacked registry (cell_named e)) →
        cond b (Some (cell_named x)) (first_lacking registry (es ++ e ∷ [])) ≡ (cond b (Some (cell_named x)) (first_lacking registry es) or_else lacked registry (cell_named e))
    go true later = refl
    go false later = later

module _ (registry : Registry) (bodies : List (List ℕ)) (i : ℕ) (s : Service) (lacking : Option ℕ) (so_far : IsReplay registry (take i bodies) s lacking) where
  pub replay_push : (body other : List ℕ) (cell : ℕ) (now : Service) → i < length bodies → body ≡ get_or bodies i other → IsEntered s body cell now → IsReplay registry (take (i + 1) bodies) now (lacking or_else lacked registry cell)
  unfolding service_in
  replay_push body other cell now lt is entered = record {
    es = so_far.es ++ entered.entry ∷ [];
    stand = record {
      entries = all_push so_far.es entered.entry so_far.stand.entries entered.is;
      spelled = map_push so_far.es entered.entry ∙ ap (λ bs. bs ++ service_entry_bytes entered.entry ∷ []) so_far.stand.spelled
          ∙ ap (λ (b : List ℕ). take i bodies ++ b ∷ []) (entered.spelled ∙ is) ∙ sym (take_more bodies i other lt);
      folds = folded_push service_turn (Some empty_service) so_far.es entered.entry ∙ ap (and_then (λ x. service_turn x entered.entry)) so_far.stand.folds ∙ entered.turns;
    };
    lacks = lacking_push registry so_far.es entered.entry ∙ ap (λ o. o or_else lacked registry (cell_named entered.entry)) so_far.lacks ∙ ap (λ c. lacking or_else lacked registry c) entered.names;
    bounds = turn_bounds s so_far.bounds entered.entry now entered.is entered.turns;
  }

-- what it keeps after an entry that is legal in its turn
pub turned_is : (o : Option Service) (s now : Service) (legal : Bool) → legal ≡ true → legal ≡ is_some o → now ≡ unwrap_or o s → o ≡ Some now
turned_is (Some t) s now legal holds is same = ap Some (sym same)
turned_is None s now legal holds is same = absurd (let e : true ≡ false = sym holds ∙ is in cc)

-- before the first body
pub replay_start : (registry : Registry) (s : Service) → s ≡ empty_service → IsReplay registry [] s None
unfolding service_in
replay_start registry s same = record {
  es = [];
  stand = record { entries = tt; spelled = refl; folds = ap Some (sym same) };
  lacks = refl;
  bounds = subst (λ (x : Service). IsWithinBounds (map_of x)) (sym same) (opening_bounds [] (All-nil IsRange) (λ k r h. absurd cc));
}

pub or_is : (x y : Option ℕ) → option_or x y ≡ (x or_else y)
or_is (Some n) y = refl
or_is None y = refl
