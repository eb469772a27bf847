-- The first items of a list, in a page.
use Rattle.std.proofs.Common.{◌≡◌, ℕ, ◌+◌, List, length, take, nat_lt, ◌∙◌, ap, arith}
use Rattle.std.proofs.lemmas.Bool.Decides.{nat_tests}
use Rattle.std.proofs.lemmas.List.{take-take, length-take}

-- of what was sought for a page, one more than it has, the page and whether the list goes on
module _ {X : Type 0} (n : ℕ) (xs found : List X) (is : found ≡ take (n + 1) xs) where
  pub page_items : take n found ≡ take n xs
  page_items = ap (take n) is ∙ take-take n (n + 1) xs (omega arith)

  pub page_more : nat_lt n (length found) ≡ nat_lt n (length xs)
  page_more =
      let e : length found ≡ length (take (n + 1) xs) = ap length is in
      grind (arith, nat_tests, length-take (n + 1) xs)
