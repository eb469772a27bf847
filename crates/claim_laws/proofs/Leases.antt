-- What open leases say, through each step of the service.
use Rattle.std.proofs.Common.{◌≡◌, ◌≢◌, ◌⊎◌, inl, inr, sym, ◌∙◌, ap, subst}
use Rattle.std.specs.List.{Contains}
use Rattle.std.specs.FinMap as map
use Rattle.cells_base.proofs.Maps.{inserted, removed}
use Rattle.claim_types.proofs.Ordered.{leases_total, leases_exact}
use Rattle.claim_types.specs.Operations.{keys_of, AreWellFormed}
use Rattle.claim_types.specs.declared.key.ClaimKey.{ClaimKey}
use Rattle.claim_types.specs.declared.lease.LeaseId.{LeaseId}
use Rattle.claim_types.specs.declared.operations.Operations.{Operations}
use Rattle.claim_types.specs.declared.step.Step.TheVariants.{Leased, RolledBack}
use Rattle.claim_map.specs.State.{ClaimMap, Tree, leases_of, covers}
use Rattle.claim_map.specs.Step.{after, without_keys, with_claims}
use Rattle.claim_map.specs.Verdict.{MayBegin}
use Rattle.claim_map.specs.Legal.{IsOpen}
use Rattle.claim_map.specs.Sound.{LeasesAreSound}
use Rattle.claim_laws.proofs.Shapes.{with_recorded}
use Rattle.claim_laws.proofs.Looks.{after_commit}
use Rattle.claim_laws.proofs.Lists.{created_key, destroyed_key}
use Rattle.claim_laws.proofs.Holders.{released_other, claimed_other}

module _ (s : ClaimMap) (sound : LeasesAreSound s) (k : LeaseId) where
  -- a lease that may begin is open
  module _ (ops : Operations) (may : MayBegin (leases_of s) s.ranges k ops) where
    new_or_old : (l : LeaseId) (o : Operations) → IsOpen (after s (Leased k ops)) l o → ((l ≡ k) × (ops ≡ o)) ⊎ ((l ≢ k) × IsOpen s l o)
    new_or_old l o is = inserted leases_total leases_exact s.open_leases k ops l o is

    pub leased-sound : LeasesAreSound (after s (Leased k ops))
    leased-sound = record {
      well_formed = λ l o is. elim (new_or_old l o is) [
        | inl new ↦ subst AreWellFormed new.1 may.well_formed
        | inr old ↦ sound.well_formed l o old.1
      ];
      apart = λ l m a b key la mb ka kb. elim (new_or_old l a la) [
        | inl new ↦ elim (new_or_old m b mb) [
          | inl too ↦ new.0 ∙ sym too.0
          | inr old ↦ absurd (may.free.unleased key (subst (λ o. Contains (keys_of o) key) (sym new.1) ka) m b old.1 kb)
        ]
        | inr old ↦ elim (new_or_old m b mb) [
          | inl new ↦ absurd (may.free.unleased key (subst (λ o. Contains (keys_of o) key) (sym new.1) kb) l a old.1 ka)
          | inr too ↦ sound.apart l m a b key old.1 too.1 ka kb
        ]
      ];
      unheld = λ l o c is made. elim (new_or_old l o is) [
        | inl new ↦ may.free.unheld c (subst (λ (x : Operations). Contains x.creates c) (sym new.1) made)
        | inr old ↦ sound.unheld l o c old.1 made
      ];
      held_here = λ l o key is gone. elim (new_or_old l o is) [
        | inl new ↦
            let found = may.free.held_here key (subst (λ (x : Operations). Contains x.destroys key) (sym new.1) gone) in
            (found.0, found.1, found.2 ∙ ap (λ (x : LeaseId). x.cell) (sym new.0))
        | inr old ↦ sound.held_here l o key old.1 gone
      ];
      own_rows = λ l o c is made. elim (new_or_old l o is) [
        | inl new ↦ ap (λ (x : LeaseId). covers s.ranges x.cell c.origin.row) new.0 ∙ may.free.own_rows c (subst (λ (x : Operations). Contains x.creates c) (sym new.1) made)
        | inr old ↦ sound.own_rows l o c old.1 made
      ];
    }

  -- an open lease is applied: the keys of others are not touched
  module _ (ops : Operations) (opened : IsOpen s k ops) where
    other : (l : LeaseId) (o : Operations) → IsOpen (after_commit s k ops) l o → (l ≢ k) × IsOpen s l o
    other l o is = removed leases_total leases_exact s.open_leases k l o is

    untouched : (l : LeaseId) (o : Operations) → l ≢ k → IsOpen s l o → (key : ClaimKey) → Contains (keys_of o) key → map.get (with_claims k.cell ops.creates (without_keys ops.destroys s.holder)) key ≡ map.get s.holder key
    untouched l o apart is key named =
        claimed_other k.cell ops.creates (without_keys ops.destroys s.holder) key (λ c made same. apart (sound.apart l k o ops key is opened named (subst (Contains (keys_of ops)) same (created_key ops c made))))
        ∙ released_other ops.destroys s.holder key (λ gone. apart (sound.apart l k o ops key is opened named (destroyed_key ops key gone)))

    pub committed-sound : LeasesAreSound (after_commit s k ops)
    committed-sound = record {
      well_formed = λ l o is. sound.well_formed l o (other l o is).1;
      apart = λ l m a b key la mb ka kb. sound.apart l m a b key (other l a la).1 (other m b mb).1 ka kb;
      unheld = λ l o c is made. let old = other l o is in untouched l o old.0 old.1 c.key (created_key o c made) ∙ sound.unheld l o c old.1 made;
      held_here = λ l o key is gone.
          let old = other l o is in
          let found = sound.held_here l o key old.1 gone in
          (found.0, untouched l o old.0 old.1 key (destroyed_key o key gone) ∙ found.1, found.2);
      own_rows = λ l o c is made. sound.own_rows l o c (other l o is).1 made;
    }

  pub rolled_back-sound : LeasesAreSound (after s (RolledBack k))
  rolled_back-sound = record {
    well_formed = λ l o is. sound.well_formed l o (still l o is);
    apart = λ l m a b key la mb ka kb. sound.apart l m a b key (still l a la) (still m b mb) ka kb;
    unheld = λ l o c is made. sound.unheld l o c (still l o is) made;
    held_here = λ l o key is gone. sound.held_here l o key (still l o is) gone;
    own_rows = λ l o c is made. sound.own_rows l o c (still l o is) made;
  }
    where
      still : (l : LeaseId) (o : Operations) → IsOpen (after s (RolledBack k)) l o → IsOpen s l o
      still l o is = (removed leases_total leases_exact s.open_leases k l o is).1

  pub with_recorded-sound : (tree : Tree) → LeasesAreSound (with_recorded s k tree)
  with_recorded-sound tree = record { well_formed = sound.well_formed; apart = sound.apart; unheld = sound.unheld; held_here = sound.held_here; own_rows = sound.own_rows }
