-- A cell records a lease: its records claim what they claimed, but for what the lease creates and destroys.
use Rattle.std.proofs.Common.{◌≡◌, ◌≢◌, ◌⊎◌, inl, inr, ℕ, true, false, Some, refl, sym, ◌∙◌, ap, subst}
use Rattle.std.specs.List.{Contains}
use Rattle.std.specs.Cmp.{nat_cmp_total}
use Rattle.std.specs.Option.{unwrap_or}
use Rattle.std.specs.FinMap as map
use Rattle.std.specs.FinMap.{nat_cmp-IsAntisymmetric}
use Rattle.cells_base.proofs.Maps.{same_or_other, insert_same, insert_other}
use Rattle.claim_types.proofs.Ordered.{leases_total, leases_exact}
use Rattle.claim_types.specs.Operations.{keys_of}
use Rattle.claim_types.specs.declared.key.ClaimKey.{ClaimKey}
use Rattle.claim_types.specs.declared.lease.LeaseId.{LeaseId}
use Rattle.claim_types.specs.declared.lease.Holding.{Holding}
use Rattle.claim_types.specs.declared.operations.Create.{Create}
use Rattle.claim_types.specs.declared.operations.Operations.{Operations}
use Rattle.claim_map.specs.State.{ClaimMap, Tree, tree_of, empty_tree}
use Rattle.claim_map.specs.Step.{holding_of}
use Rattle.claim_map.specs.Claims.{claims_of, is_among, operations_between}
use Rattle.claim_map.specs.Legal.{IsOpen, IsRecorded}
use Rattle.claim_map.specs.Sound.{IsClaimed, IsKept, IsToBeHeld, IsViewed, ClaimsEqualView, LeasesAreSound}
use Rattle.claim_laws.proofs.Shapes.{with_recorded}
use Rattle.claim_laws.proofs.Looks.{member_put, member_put_other}
use Rattle.claim_map.proofs.Claims.{is_among-Contains, stands_or_not, created, is_created, destroyed, is_destroyed, same_claim}
use Rattle.claim_laws.proofs.Lists.{created_key, destroyed_key}
use Rattle.claim_laws.proofs.Views.{one_view}

-- the trees after a cell has recorded a change
pub written_tree : (s : ClaimMap) (k : LeaseId) (tree : Tree) → tree_of (with_recorded s k tree) k.cell ≡ tree
written_tree s k tree = ap (λ o. unwrap_or o empty_tree) (insert_same nat_cmp_total nat_cmp-IsAntisymmetric s.trees k.cell tree)

pub written_other : (s : ClaimMap) (k : LeaseId) (tree : Tree) (cell : ℕ) → cell ≢ k.cell → tree_of (with_recorded s k tree) cell ≡ tree_of s cell
written_other s k tree cell apart = ap (λ o. unwrap_or o empty_tree) (insert_other nat_cmp_total nat_cmp-IsAntisymmetric s.trees k.cell tree cell apart)

module _ (s : ClaimMap) (sound : LeasesAreSound s) (equal : ClaimsEqualView s) (k : LeaseId) (tree : Tree) (ops : Operations)
    (is : ops ≡ operations_between (claims_of (tree_of s k.cell)) (claims_of tree)) (is_open : IsOpen s k ops) (unrecorded : IsRecorded s k → ⊥) where
  mine : IsRecorded (with_recorded s k tree) k
  mine = member_put s.recorded k

  still : (l : LeaseId) → IsRecorded s l → IsRecorded (with_recorded s k tree) l
  still l r = member_put_other s.recorded k l (λ e. unrecorded (subst (IsRecorded s) e r)) ∙ r

  cases : (l : LeaseId) → IsRecorded (with_recorded s k tree) l → (l ≡ k) ⊎ IsRecorded s l
  cases l r = elim (same_or_other leases_total leases_exact l k) [ inl e ↦ inl e | inr apart ↦ inr (sym (member_put_other s.recorded k l apart) ∙ r) ]

  with_ops : (l : LeaseId) (o : Operations) → l ≡ k → IsOpen s l o → o ≡ ops
  with_ops l o e opened = let both : Some o ≡ Some ops = sym opened ∙ ap (map.get s.open_leases) e ∙ is_open in cc

  due_still : (cell : ℕ) (key : ClaimKey) (h : Holding) → IsToBeHeld s cell key h → IsToBeHeld (with_recorded s k tree) cell key h
  due_still cell key h due = record { lease = due.lease; ops = due.ops; of_cell = due.of_cell; recorded = still due.lease due.recorded; open_with = due.open_with; claimed = due.claimed }

  kept_before : (cell : ℕ) (key : ClaimKey) (h : Holding) → IsKept (with_recorded s k tree) cell key h → IsKept s cell key h
  kept_before cell key h kept = record { held = kept.held; here = kept.here; not_given_up = λ l o of_cell r opened gone. kept.not_given_up l o of_cell (still l r) opened gone }

  -- another cell sees what it saw
  module _ (cell : ℕ) (apart : cell ≢ k.cell) (key : ClaimKey) (h : Holding) where
    not_mine : (l : LeaseId) → l.cell ≡ cell → IsRecorded (with_recorded s k tree) l → IsRecorded s l
    not_mine l of_cell r = elim (cases l r) [ inl e ↦ absurd (apart (sym of_cell ∙ ap (λ (x : LeaseId). x.cell) e)) | inr old ↦ old ]

    other_after : IsViewed s cell key h → IsViewed (with_recorded s k tree) cell key h
    other_after viewed = elim viewed [
      | inl kept ↦ inl (record { held = kept.held; here = kept.here; not_given_up = λ l o of_cell r opened gone. kept.not_given_up l o of_cell (not_mine l of_cell r) opened gone })
      | inr due ↦ inr (due_still cell key h due)
    ]

    other_before : IsViewed (with_recorded s k tree) cell key h → IsViewed s cell key h
    other_before viewed = elim viewed [
      | inl kept ↦ inl (kept_before cell key h kept)
      | inr due ↦ inr (record { lease = due.lease; ops = due.ops; of_cell = due.of_cell; recorded = not_mine due.lease due.of_cell due.recorded; open_with = due.open_with; claimed = due.claimed })
    ]

  -- the lease's own cell
  module _ (key : ClaimKey) (h : Holding) where
    viewed_of : (c : Create) → Contains (claims_of (tree_of s k.cell)) c → c.key ≡ key → IsViewed s k.cell key (holding_of k.cell c)
    viewed_of c stands of_key = equal.viewed k.cell key (holding_of k.cell c) (record { claim = c; stands = stands; of_key = of_key; of_holding = refl })

    own_after : IsClaimed (claims_of tree) k.cell key h → IsViewed (with_recorded s k tree) k.cell key h
    own_after now = elim (stands_or_not (claims_of (tree_of s k.cell)) now.claim) [
      | inl stood ↦ elim (viewed_of now.claim stood now.of_key) [
        | inl kept ↦ inl (record {
          held = kept.held ∙ ap Some now.of_holding;
          here = ap (λ (x : Holding). x.cell) (sym now.of_holding) ∙ kept.here;
          not_given_up = λ l o of_cell r opened gone. elim (cases l r) [
            | inl e ↦
                let there : Contains (operations_between (claims_of (tree_of s k.cell)) (claims_of tree)).destroys key = subst (λ (x : Operations). Contains x.destroys key) (with_ops l o e opened ∙ is) gone in
                let lost = destroyed (claims_of (tree_of s k.cell)) (claims_of tree) key there in
                let one = one_view s sound k.cell key (holding_of k.cell lost.0) (holding_of k.cell now.claim) (viewed_of lost.0 lost.1 lost.3) (viewed_of now.claim stood now.of_key) in
                let same = same_claim k.cell lost.0 now.claim (lost.3 ∙ sym now.of_key) one in
                let both : false ≡ true = sym lost.2 ∙ ap (is_among (claims_of tree)) same ∙ is_among-Contains (claims_of tree) now.claim now.stands in
                cc
            | inr old ↦ kept.not_given_up l o of_cell old opened gone
          ];
        })
        | inr due ↦ inr (due_still k.cell key h (subst (IsToBeHeld s k.cell key) now.of_holding due))
      ]
      | inr new ↦ inr (record {
        lease = k;
        ops = ops;
        of_cell = refl;
        recorded = mine;
        open_with = is_open;
        claimed = record {
          claim = now.claim;
          stands = subst (λ (x : Operations). Contains x.creates now.claim) (sym is) (is_created (claims_of (tree_of s k.cell)) (claims_of tree) now.claim now.stands new);
          of_key = now.of_key;
          of_holding = now.of_holding;
        };
      })
    ]

    -- a claim of before that nothing takes away
    remains : IsClaimed (claims_of (tree_of s k.cell)) k.cell key h → (Contains ops.destroys key → ⊥) → IsClaimed (claims_of tree) k.cell key h
    remains old not_gone = elim (stands_or_not (claims_of tree) old.claim) [
      | inl stands ↦ record { claim = old.claim; stands = stands; of_key = old.of_key; of_holding = old.of_holding }
      | inr gone ↦
          let lost = is_destroyed (claims_of (tree_of s k.cell)) (claims_of tree) old.claim old.stands gone in
          absurd (not_gone (subst (λ (x : Operations). Contains x.destroys key) (sym is) (subst (Contains (operations_between (claims_of (tree_of s k.cell)) (claims_of tree)).destroys) old.of_key lost)))
    ]

    own_before : IsViewed (with_recorded s k tree) k.cell key h → IsClaimed (claims_of tree) k.cell key h
    own_before (inl kept) = remains (equal.claimed k.cell key h (inl (kept_before k.cell key h kept))) (λ gone. kept.not_given_up k ops refl mine is_open gone)
    own_before (inr due) = elim (cases due.lease due.recorded) [
      | inl e ↦
          let there = subst (λ (x : Operations). Contains x.creates due.claimed.claim) (with_ops due.lease due.ops e due.open_with ∙ is) due.claimed.stands in
          record { claim = due.claimed.claim; stands = (created (claims_of (tree_of s k.cell)) (claims_of tree) due.claimed.claim there).0; of_key = due.claimed.of_key; of_holding = due.claimed.of_holding }
      | inr old ↦ remains
          (equal.claimed k.cell key h (inr (record { lease = due.lease; ops = due.ops; of_cell = due.of_cell; recorded = old; open_with = due.open_with; claimed = due.claimed })))
          (λ gone. unrecorded (subst (IsRecorded s) (sound.apart due.lease k due.ops ops key due.open_with is_open (subst (Contains (keys_of due.ops)) due.claimed.of_key (created_key due.ops due.claimed.claim due.claimed.stands)) (destroyed_key ops key gone)) old))
    ]

  pub recorded-view : ClaimsEqualView (with_recorded s k tree)
  recorded-view = record {
    viewed = λ cell key h claimed. elim (same_or_other nat_cmp_total nat_cmp-IsAntisymmetric cell k.cell) [
      | inl e ↦
          let here : IsClaimed (claims_of tree) k.cell key h = subst (λ x. IsClaimed (claims_of x) k.cell key h) (written_tree s k tree) (subst (λ c. IsClaimed (claims_of (tree_of (with_recorded s k tree) c)) c key h) e claimed) in
          subst (λ c. IsViewed (with_recorded s k tree) c key h) (sym e) (own_after key h here)
      | inr apart ↦ other_after cell apart key h (equal.viewed cell key h (subst (λ x. IsClaimed (claims_of x) cell key h) (written_other s k tree cell apart) claimed))
    ];
    claimed = λ cell key h viewed. elim (same_or_other nat_cmp_total nat_cmp-IsAntisymmetric cell k.cell) [
      | inl e ↦
          let here = own_before key h (subst (λ c. IsViewed (with_recorded s k tree) c key h) e viewed) in
          subst (λ c. IsClaimed (claims_of (tree_of (with_recorded s k tree) c)) c key h) (sym e) (subst (λ x. IsClaimed (claims_of x) k.cell key h) (sym (written_tree s k tree)) here)
      | inr apart ↦ subst (λ x. IsClaimed (claims_of x) cell key h) (sym (written_other s k tree cell apart)) (equal.claimed cell key h (other_before cell apart key h viewed))
    ];
  }
