use Rattle.std.proofs.Common.{◌≡◌, IfOk, map, ℕ, ◌≤◌, length, List, [], ◌∷◌, get_or, Bor, Option, Some, refl, arith, ap, ◌∙◌, subst}
use Rattle.cells_script.specs.Lines as spec
use Rattle.cells_script.specs.declared.line.Line.{Line}
use Rattle.cells_script.proofs.asks.route_line.Goals as goal

-- three words or more are a method, a target and a cookie
with_cookie : (cookie : List ℕ) (words : List (Bor (List ℕ))) (d e : Bor (List ℕ)) → 3 ≤ length words
    → spec.route (get_or words 0 d).now (get_or words 1 e).now (Some cookie) ≡ spec.route_line cookie (map (λ w. w.now) words)
with_cookie cookie [] d e h = absurd (omega arith)
with_cookie cookie (a ∷ []) d e h = absurd (omega arith)
with_cookie cookie (a ∷ b ∷ []) d e h = absurd (omega arith)
with_cookie cookie (a ∷ b ∷ c ∷ more) d e h = refl

pub returns-in_ok-cookie-in-len3-up-clause-value : goal.returns-in_ok-cookie-in-len3-up-clause-value
returns-in_ok-cookie-in-len3-up-clause-value c =
    let none : Bor (List ℕ) = record { ref_ptr = (0, 0); now = [] } in
    let method = (get_or c.args.words.now 0 none).now in
    let target = (get_or c.args.words.now 1 none).now in
    subst (λ (x : Option Line). IfOk c.route-in-len3-up.result (λ line. line ≡ x))
    (ap (λ k. spec.route method target (Some k)) c.in_ok-cookie-in-len3-up.ensures ∙ with_cookie c.args.cookie.now c.args.words.now none none c.in-len3-up.len_at_least)
    c.route-in-len3-up.ensures.value
