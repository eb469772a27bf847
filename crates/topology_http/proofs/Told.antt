-- The length that one field tells, and that two do not.
use Rattle.std.proofs.Common.{◌≡◌, ℕ, ◌+◌, List, [], ◌∷◌, drop, map, get_or, sym, ap, ◌∙◌, refl, Some, Err}
use Rattle.std.proofs.lemmas.List.{drop-map, get_or-map, length-map}
use Rattle.httparse.specs.declared.spans.HeaderSpan.{HeaderSpan}
use Rattle.httparse.specs.Spans.{header_bytes}
use Rattle.topology_http.specs.declared.fault.HttpFault.TheVariants.{BadHead}
use Rattle.topology_http.specs.Messages.{values, told, length_told, number_in}
use Rattle.topology_http.specs.Fields.{IsNext}

module _ (bytes name : List ℕ) (fields : List HeaderSpan) (at : ℕ) (first : IsNext name (map (header_bytes bytes) fields) (Some at))
    (rest : List HeaderSpan) (behind : rest ≡ drop (at + 1) fields) where
  front : values name (map (header_bytes bytes) fields) ≡ (get_or (map (header_bytes bytes) fields) at ([], [])).1 ∷ values name (map (header_bytes bytes) rest)
  front =
      first.1 ∙ ap (λ fs. (get_or (map (header_bytes bytes) fields) at ([], [])).1 ∷ values name fs)
      (drop-map (header_bytes bytes) (at + 1) fields ∙ sym (ap (map (header_bytes bytes)) behind))

  pub told_twice : (other : ℕ) → IsNext name (map (header_bytes bytes) rest) (Some other)
      → Err BadHead ≡ length_told (values name (map (header_bytes bytes) fields))
  told_twice other second = rw (front, second.1) refl

  pub told_once : (d : HeaderSpan) → values name (map (header_bytes bytes) rest) ≡ []
      → told (number_in (header_bytes bytes (get_or fields at d)).1) ≡ length_told (values name (map (header_bytes bytes) fields))
  told_once d none =
      ap (λ f. told (number_in f.1)) (sym (get_or-map (header_bytes bytes) fields at d ([], []) (rw (sym (length-map fields (header_bytes bytes))) first.0)))
      ∙ sym (ap (λ vs. length_told ((get_or (map (header_bytes bytes) fields) at ([], [])).1 ∷ vs)) none)
      ∙ sym (ap length_told front)
