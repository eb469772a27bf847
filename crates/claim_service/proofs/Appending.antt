-- From what an append of the journal promises to what the node's call promises, and the same where nothing is written down.
use Rattle.std.proofs.Common.{◌≡◌, ℕ, true, List, Option, Some, None, sym, ◌∙◌, subst}
use Rattle.claim_types.specs.MessageBounds.{IsRequest}
use Rattle.claim_types.specs.declared.entry.ServiceEntry.{ServiceEntry}
use Rattle.claim_types.specs.declared.message.Request.{Request}
use Rattle.claim_map.specs.Bounds.{AreCells, IsWithinBounds}
use Rattle.claim_map.specs.Entries.{entry_of}
use Rattle.claim_map.specs.Registry.{Registry}
use Rattle.claim_laws.specs.Files.{Service, map_of}
use Rattle.disk_journal.specs.declared.disk.Disk.{Ghosts}
use Rattle.disk_journal.specs.Journal.{JournalState, IsBody}
use Rattle.disk_journal.specs.Effects.{Adds, AddsAtMost, LeavesBodyInDoubt}
use Rattle.disk_journal.specs.Entries.{Keeper, Appended, AppendsAtMost, LeavesEntryInDoubt}
use Rattle.disk_journal.proofs.Entries.{appended, appends_at_most, leaves_in_doubt, nothing_appended}
use Rattle.entry_codec.proofs.Lengths.{service_body}
use Rattle.claim_service.specs.State.{owed, kept_after, body_of}
use Rattle.claim_service.specs.Node.{service}
use Rattle.claim_service.proofs.Handling.{entered, unentered, entry_is, goes_on, quiet_after}

module _ (registry : Registry) (s : Service) (request : Request) (cells : AreCells registry) (bounds : IsWithinBounds (map_of s)) (is : IsRequest request) where
  abbrev due_entry : Option ServiceEntry
  due_entry = entry_of (owed registry s request).step

  abbrev after : Service
  after = kept_after s (owed registry s request)

  module _ (body : List ℕ) (told : Some body ≡ body_of (owed registry s request)) where
    found : (e : ServiceEntry) × (due_entry ≡ Some e) × (body ≡ service.bytes e)
    found = entered due_entry body told

    pub is_body : IsBody body
    is_body = let fits = service_body found.0 (entry_is registry s request cells bounds is found.0 found.1) in subst (λ (b : List ℕ). IsBody b) (sym found.2) (fits.some, fits.not_too_long)

    module _ {D : Type 0} (g : Ghosts D) (old new : D) (journal : JournalState) where
      abbrev before : Keeper Service
      before = record { journal = journal; state = s }

      pub appended_due : (now : JournalState) (t : Service) → t ≡ after → now.live ≡ true → Adds g old new journal now body → Appended g service old new before (record { journal = now; state = t }) due_entry
      appended_due now t same live adds =
          subst (λ (x : Service). Appended g service old new before (record { journal = now; state = x }) due_entry) (sym same)
          (subst (λ o. Appended g service old new before (record { journal = now; state = after }) o) (sym found.1)
          (appended g service old new before after found.0 now (entry_is registry s request cells bounds is found.0 found.1) (goes_on registry s request cells bounds is found.0 found.1)
          live (subst (λ (b : List ℕ). Adds g old new journal now b) found.2 adds)))

      pub appends_due : AddsAtMost g old new journal body → AppendsAtMost g service old new before due_entry
      appends_due any_moment =
          subst (λ o. AppendsAtMost g service old new before o) (sym found.1)
          (appends_at_most g service old new before after found.0 journal (entry_is registry s request cells bounds is found.0 found.1) (goes_on registry s request cells bounds is found.0 found.1)
          (subst (λ (b : List ℕ). AddsAtMost g old new journal b) found.2 any_moment))

      pub due_in_doubt : LeavesBodyInDoubt g old new journal body → LeavesEntryInDoubt g service old new before due_entry
      due_in_doubt in_doubt =
          subst (λ o. LeavesEntryInDoubt g service old new before o) (sym found.1)
          (leaves_in_doubt g service old new before after found.0 journal (entry_is registry s request cells bounds is found.0 found.1) (goes_on registry s request cells bounds is found.0 found.1)
          (subst (λ (b : List ℕ). LeavesBodyInDoubt g old new journal b) found.2 in_doubt))

  -- where nothing is written down
  pub nothing_due : {D : Type 0} (g : Ghosts D) (d : D) (journal : JournalState) (t : Service) → t ≡ after → None ≡ body_of (owed registry s request) →
      Appended g service d d (record { journal = journal; state = s }) (record { journal = journal; state = t }) due_entry
  nothing_due g d journal t same told =
      let none : due_entry ≡ None = unentered due_entry told in
      subst (λ (x : Service). Appended g service d d (record { journal = journal; state = s }) (record { journal = journal; state = x }) due_entry) (sym (same ∙ quiet_after registry s request cells bounds is none))
      (subst (λ o. Appended g service d d (record { journal = journal; state = s }) (record { journal = journal; state = s }) o) (sym none) (nothing_appended g service d (record { journal = journal; state = s })))
