use Rattle.std.proofs.Common.{◌≡◌, ◌&&◌, true, false, cond, Some, None, refl, Bool, List, ℕ, sym, ◌∙◌, ap}
use Rattle.std.specs.FinMap as fin
use Rattle.claim_map.specs.Pages.{is_listed, claim_of}
use Rattle.lease_core.specs.Gathered.{at_row, is_place}
use Rattle.lease_core.proofs.pages.claim_at.Goals as goal

neither_way : {A : Type 0} (a b : Bool) (x : A) → b ≡ false → None ≡ cond (a && b) (Some x) None
neither_way true b x h = ap (λ y. cond y (Some x) None) (sym h)
neither_way false b x h = refl

pub returns-then-not-lists : goal.returns-then-not-lists
returns-then-not-lists c =
    let listed = is_listed c.args.listing.now.cell c.args.listing.now.bucket c.args.listing.now.first c.args.listing.now.last c.args.listing.now.after in
    neither_way (is_place c.args.place.now c.in-Some.holding) (listed (c.args.place.now.key, c.in-Some.holding)) (claim_of (c.args.place.now.key, c.in-Some.holding)) (sym c.if-not-lists.ensures)
    ∙ ap (at_row c.args.keys.now.holder listed c.args.place.now) (sym c.in-Some.is ∙ c.state.ensures.holder ∙ ap (λ (v : List ℕ). fin.get c.args.keys.now.holder (record { bucket = c.args.place.now.key.bucket; value = v })) c.as_slice.ensures)
