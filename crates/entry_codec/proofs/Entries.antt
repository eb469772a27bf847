-- Whole entries: what is read is spelled so, and what is spelled so is read.
use Rattle.std.proofs.Common.{◌≡◌, ℕ, cond, eqb, List, [], ◌++◌, length, Option, Some, None, refl, sym, ap, subst, ◌∙◌}
use Rattle.std.proofs.lemmas.Bool.{eqb-true}
use Rattle.std.proofs.lemmas.List.{append-nil, nil_from_length}
use Rattle.std.proofs.lemmas.Option.{cond_some}
use Rattle.claim_types.specs.declared.cell.Range.{Range}
use Rattle.claim_types.specs.declared.entry.CellEntry.{CellEntry}
use Rattle.claim_types.specs.declared.entry.CellEntry.TheVariants.{Epoch, Recorded, RowGone, Got}
use Rattle.claim_types.specs.declared.entry.ServiceEntry.{ServiceEntry}
use Rattle.claim_types.specs.declared.entry.ServiceEntry.TheVariants.{Begun, Settled, Given}
use Rattle.claim_types.specs.declared.record.Change.{Change}
use Rattle.claim_types.specs.declared.record.Change.TheVariants as change
use Rattle.claim_types.specs.Bounds.{IsRange}
use Rattle.claim_types.specs.EntryBounds.{IsChange, IsServiceEntry, IsCellEntry}
use Rattle.entry_codec.specs.Reading as reading
use Rattle.entry_codec.specs.Reading.{Part, ◌>>=◌, both, whole}
use Rattle.entry_codec.specs.Spelling as spell
use Rattle.entry_codec.proofs.Fields.{identifier-IsPart, parent-IsPart, cell-IsPart, range_number-IsPart, epoch-IsPart, ends-IsPart, kind-IsPart, how-IsPart, lease-IsPart, name-IsPart, operations-IsPart}
use Rattle.entry_codec.proofs.Laws.{IsBytes, IsPart, both-IsPart, mapped-IsPart, mapped-Arm, nothing-Arms, coded-Arms, tagged_takes, bind_some, bind_is}

-- what is behind the first byte of a mapped part
again : {A B : Type 0} {f : A → List ℕ} {F : A → Type 0} {part : Part A} (to : A → B) → IsPart f F part → (a : A) (rest : List ℕ) → F a → reading.mapped to part (f a ++ rest) ≡ Some (to a, rest)
again {f} {part} to p a rest fits = bind_is (part (f a ++ rest)) (λ found. Some (to found.0, found.1)) (a, rest) (p.again a rest fits)

-- ---- changes

change_again : (c : Change) (rest : List ℕ) → IsChange c → reading.change_at (spell.change_bytes c ++ rest) ≡ Some (c, rest)
unfolding reading.change_at reading.new_record_at reading.rename_at reading.remove_at
change_again (change.Create kind parent name) rest is = again (λ found. change.Create found.0 found.1.0 found.1.1) (both-IsPart kind-IsPart (both-IsPart parent-IsPart name-IsPart)) (kind, (parent, name)) rest (tt, (is.0, is.1))
change_again (change.Rename id name) rest is = again (λ found. change.Rename found.0 found.1) (both-IsPart identifier-IsPart name-IsPart) (id, name) rest (is.0, is.1)
change_again (change.Remove id) rest is = again (λ id. change.Remove id) identifier-IsPart id rest is

change-IsPart : IsPart spell.change_bytes IsChange reading.change_at
unfolding reading.change_at reading.new_record_at reading.rename_at reading.remove_at
change-IsPart = record {
  takes = tagged_takes
      (coded-Arms (mapped-Arm 1 _ (both-IsPart kind-IsPart (both-IsPart parent-IsPart name-IsPart)) (λ found. refl) (λ found fits. (fits.1.0, fits.1.1)))
      (coded-Arms (mapped-Arm 2 _ (both-IsPart identifier-IsPart name-IsPart) (λ found. refl) (λ found fits. (fits.0, fits.1)))
      (coded-Arms (mapped-Arm 3 _ identifier-IsPart (λ id. refl) (λ id fits. fits)) nothing-Arms)));
  again = change_again;
}

-- ---- entries of the service

range-IsPart : IsPart (λ (range : Range). spell.range_bytes range) IsRange reading.range_at
unfolding reading.range_at
range-IsPart = mapped-IsPart _ (λ (range : Range). (range.cell, (range.number, (range.low, range.high)))) spell.range_bytes IsRange (both-IsPart cell-IsPart (both-IsPart range_number-IsPart ends-IsPart)) (λ range. refl) (λ found. refl)
    (λ found fits. record { cell = fits.0; number = fits.1.0; ends = fits.1.1 }) (λ range is. (is.cell, (is.number, is.ends)))

service_again : (entry : ServiceEntry) (rest : List ℕ) → IsServiceEntry entry → reading.service_entry_at (spell.service_entry_bytes entry ++ rest) ≡ Some (entry, rest)
unfolding spell.service_entry_bytes reading.service_entry_at reading.begun_at reading.settled_at reading.given_at
service_again (Begun lease ops) rest is = again (λ found. Begun found.0 found.1) (both-IsPart lease-IsPart operations-IsPart) (lease, ops) rest (is.0, is.1)
service_again (Settled lease how) rest is = again (λ found. Settled found.0 found.1) (both-IsPart lease-IsPart how-IsPart) (lease, how) rest (is, tt)
service_again (Given range) rest is = again (λ range. Given range) range-IsPart range rest is

service-IsPart : IsPart spell.service_entry_bytes IsServiceEntry reading.service_entry_at
unfolding spell.service_entry_bytes reading.service_entry_at reading.begun_at reading.settled_at reading.given_at
service-IsPart = record {
  takes = tagged_takes
      (coded-Arms (mapped-Arm 1 _ (both-IsPart lease-IsPart operations-IsPart) (λ found. refl) (λ found fits. (fits.0, fits.1)))
      (coded-Arms (mapped-Arm 2 _ (both-IsPart lease-IsPart how-IsPart) (λ found. refl) (λ found fits. fits.0))
      (coded-Arms (mapped-Arm 3 _ range-IsPart (λ range. refl) (λ range fits. fits)) nothing-Arms)));
  again = service_again;
}

-- ---- entries of a cell

cell_entry_again : (entry : CellEntry) (rest : List ℕ) → IsCellEntry entry → reading.cell_entry_at (spell.cell_entry_bytes entry ++ rest) ≡ Some (entry, rest)
unfolding spell.cell_entry_bytes reading.cell_entry_at reading.epoch_entry_at reading.recorded_at reading.row_gone_at reading.got_at
cell_entry_again (Epoch epoch) rest is = again (λ epoch. Epoch epoch) epoch-IsPart epoch rest is
cell_entry_again (Recorded lease change ops) rest is = again (λ found. Recorded found.0 found.1.0 found.1.1) (both-IsPart lease-IsPart (both-IsPart change-IsPart operations-IsPart)) (lease, (change, ops)) rest (is.0, (is.1, is.2))
cell_entry_again (RowGone lease) rest is = again (λ lease. RowGone lease) lease-IsPart lease rest is
cell_entry_again (Got number low high) rest is = again (λ found. Got found.0 found.1.0 found.1.1) (both-IsPart range_number-IsPart ends-IsPart) (number, (low, high)) rest (is.0, is.1)

cell_entry-IsPart : IsPart spell.cell_entry_bytes IsCellEntry reading.cell_entry_at
unfolding spell.cell_entry_bytes reading.cell_entry_at reading.epoch_entry_at reading.recorded_at reading.row_gone_at reading.got_at
cell_entry-IsPart = record {
  takes = tagged_takes
      (coded-Arms (mapped-Arm 17 _ epoch-IsPart (λ epoch. refl) (λ epoch fits. fits))
      (coded-Arms (mapped-Arm 18 _ (both-IsPart lease-IsPart (both-IsPart change-IsPart operations-IsPart)) (λ found. refl) (λ found fits. (fits.0, fits.1.0, fits.1.1)))
      (coded-Arms (mapped-Arm 19 _ lease-IsPart (λ lease. refl) (λ lease fits. fits))
      (coded-Arms (mapped-Arm 20 _ (both-IsPart range_number-IsPart ends-IsPart) (λ found. refl) (λ found fits. (fits.0, fits.1))) nothing-Arms))));
  again = cell_entry_again;
}

-- ---- whole bodies

module _ {A : Type 0} {f : A → List ℕ} {F : A → Type 0} {part : Part A} (p : IsPart f F part) where
  whole_again : (a : A) → F a → whole part (f a) ≡ Some a
  whole_again a fits = ap (whole part) (sym (append-nil (f a))) ∙ bind_is (part (f a ++ [])) (λ x. cond (eqb (length x.1) 0) (Some x.0) None) (a, []) (p.again a [] fits)

  whole_takes : (bytes : List ℕ) (a : A) → IsBytes bytes → whole part bytes ≡ Some a → F a × (f a ≡ bytes)
  whole_takes bytes a fits e =
      let x = bind_some (part bytes) (λ x. cond (eqb (length x.1) 0) (Some x.0) None) a e in
      let is = cond_some (eqb (length x.0.1) 0) x.0.0 a x.2 in
      let t = p.takes bytes x.0 fits x.1 in
      let ends : x.0.1 ≡ [] = nil_from_length x.0.1 (eqb-true _ _ is.0) in
      let same : bytes ≡ f x.0.0 = t.0.parts ∙ ap (λ (rest : List ℕ). f x.0.0 ++ rest) ends ∙ append-nil (f x.0.0) in
      subst (λ (b : A). F b × (f b ≡ bytes)) is.1 (t.1, sym same)

  -- what is spelled so is what was read
  whole_only : (bytes : List ℕ) (o : Option A) → whole part bytes ≡ o → (a : A) → F a → f a ≡ bytes → o ≡ Some a
  whole_only bytes o e a fits same = sym e ∙ ap (whole part) (sym same) ∙ whole_again a fits

  -- nothing is read only where nothing is spelled so
  whole_none : (bytes : List ℕ) → whole part bytes ≡ None → (a : A) → F a → f a ≡ bytes → ⊥
  whole_none bytes e a fits same = let both : Some a ≡ None = sym (whole_again a fits) ∙ ap (whole part) same ∙ e in cc

  -- one body is the spelling of one value at most
  whole_one : (a b : A) → F a → F b → f a ≡ f b → a ≡ b
  whole_one a b fits fits_too same = let both : Some a ≡ Some b = sym (whole_again a fits) ∙ ap (whole part) same ∙ whole_again b fits_too in cc

pub service_found : (bytes : List ℕ) (entry : ServiceEntry) → IsBytes bytes → whole reading.service_entry_at bytes ≡ Some entry → IsServiceEntry entry × (spell.service_entry_bytes entry ≡ bytes)
service_found = whole_takes service-IsPart

pub service_only : (bytes : List ℕ) (o : Option ServiceEntry) → whole reading.service_entry_at bytes ≡ o → (entry : ServiceEntry) → IsServiceEntry entry → spell.service_entry_bytes entry ≡ bytes → o ≡ Some entry
service_only = whole_only service-IsPart

pub service_none : (bytes : List ℕ) → whole reading.service_entry_at bytes ≡ None → (entry : ServiceEntry) → IsServiceEntry entry → spell.service_entry_bytes entry ≡ bytes → ⊥
service_none = whole_none service-IsPart

pub service_one : (a b : ServiceEntry) → IsServiceEntry a → IsServiceEntry b → spell.service_entry_bytes a ≡ spell.service_entry_bytes b → a ≡ b
service_one = whole_one service-IsPart

pub cell_found : (bytes : List ℕ) (entry : CellEntry) → IsBytes bytes → whole reading.cell_entry_at bytes ≡ Some entry → IsCellEntry entry × (spell.cell_entry_bytes entry ≡ bytes)
cell_found = whole_takes cell_entry-IsPart

pub cell_only : (bytes : List ℕ) (o : Option CellEntry) → whole reading.cell_entry_at bytes ≡ o → (entry : CellEntry) → IsCellEntry entry → spell.cell_entry_bytes entry ≡ bytes → o ≡ Some entry
cell_only = whole_only cell_entry-IsPart

pub cell_none : (bytes : List ℕ) → whole reading.cell_entry_at bytes ≡ None → (entry : CellEntry) → IsCellEntry entry → spell.cell_entry_bytes entry ≡ bytes → ⊥
cell_none = whole_none cell_entry-IsPart

pub cell_one : (a b : CellEntry) → IsCellEntry a → IsCellEntry b → spell.cell_entry_bytes a ≡ spell.cell_entry_bytes b → a ≡ b
cell_one = whole_one cell_entry-IsPart
