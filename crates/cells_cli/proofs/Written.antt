-- Lines that are put behind a text one after another.
use Rattle.std.proofs.Common.{◌≡◌, ℕ, ◌+◌, ◌<◌, ◌≤◌, List, [], ◌∷◌, ◌++◌, length, drop, get_or, sym, ◌∙◌, ap, append_assoc}
use Rattle.std.proofs.lemmas.List.{append-nil, at_drop_more, at_drop_all}
use Rattle.cells_cli.specs.Told.{as_lines}

module _ {X : Type 0} (text : X → List ℕ) (items : List X) (i : ℕ) (written whole : List ℕ) (so_far : written ++ as_lines text (drop i items) ≡ whole) where
  pub line_more : (x : X) → i < length items → x ≡ get_or items i x → (now : List ℕ) → now ≡ (written ++ text x) ++ 10 ∷ [] → now ++ as_lines text (drop (i + 1) items) ≡ whole
  line_more x lt is now put =
      ap (λ (t : List ℕ). t ++ as_lines text (drop (i + 1) items)) (put ∙ append_assoc written (text x) (10 ∷ []))
      ∙ append_assoc written (text x ++ 10 ∷ []) (as_lines text (drop (i + 1) items))
      ∙ ap (λ (y : X). written ++ ((text y ++ 10 ∷ []) ++ as_lines text (drop (i + 1) items))) is
      ∙ sym (at_drop_more (λ (ys : List X). written ++ as_lines text ys) items i x lt)
      ∙ so_far

  pub lines_end : length items ≤ i → written ≡ whole
  lines_end le = sym (append-nil written) ∙ sym (at_drop_all (λ (ys : List X). written ++ as_lines text ys) items i le) ∙ so_far
