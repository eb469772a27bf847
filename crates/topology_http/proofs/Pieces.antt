-- A message that comes in pieces is refused at none, and told as whole where it is.
use Rattle.std.proofs.Common.{◌≡◌, ◌≢◌, ℕ, List, [], ◌∷◌, ◌++◌, sym, ap, ◌∙◌, refl, subst, ⊎_elim, inl, inr, Result, Ok, Err, None, append_assoc}
use Rattle.std.specs.List.{All, concat}
use Rattle.std.proofs.lemmas.List.{append-nil}
use Rattle.std.proofs.lemmas.List.Elements.{All-nil, All-cons}
use Rattle.topology_http.specs.declared.gather.Progress.{Progress}
use Rattle.topology_http.specs.declared.fault.HttpFault.{HttpFault}
use Rattle.topology_http.specs.declared.fault.HttpFault.TheVariants.{Memory}
use Rattle.topology_http.specs.declared.message.Side.{Side}
use Rattle.topology_http.specs.Gathers.{Gathered, Takes, Feeds, FeedsBy, fault_of, progress, AreFed, IsOnTheWay, AnyCut, WholesAreTold}
use Rattle.topology_http.specs.Messages.{Parts, IsReadAs}
use Rattle.topology_http.specs.Settles.{IsFrontOf}
use Rattle.topology_http.proofs.Sides.{readings_settle, fronts_wait}

on_the_way : (message : Parts) (x : Result Parts HttpFault) (result : Result Progress HttpFault) → IsFrontOf message x → result ≡ progress x → IsOnTheWay message result
on_the_way message x result front is = ⊎_elim (λ e. inl (is ∙ ap progress e)) (λ e. inr (is ∙ ap progress e)) front

none_refused : (message : Parts) (result : Result Progress HttpFault) → IsOnTheWay message result → fault_of result ≡ None
none_refused message result way = ⊎_elim (λ e. ap fault_of e) (λ e. ap fault_of e) way

-- a piece is taken where none was refused
takes : (old new : Gathered) (piece : List ℕ) (result : Result Progress HttpFault) → old.refused ≡ None → result ≢ Err Memory → Feeds old piece result new
    → Takes old piece result new
takes old new piece result none some feeds =
    ⊎_elim (λ t. t) (λ m. absurd (some m.0)) (subst (λ f. FeedsBy f old piece result new) none feeds)

cut : (a b c d : List ℕ) → a ++ ((b ++ c) ++ d) ≡ (a ++ b) ++ (c ++ d)
cut a b c d = simp append_assoc

gathers : (side : Side) (bytes : List ℕ) (pieces : List (List ℕ)) (results : List (Result Progress HttpFault)) (new : Gathered) (rest : List ℕ) (message : Parts)
    → AreFed (record { side = side; bytes = bytes; refused = None }) pieces results new
    → IsReadAs side (bytes ++ (concat pieces ++ rest)) (Ok message)
    → All (IsOnTheWay message) results × (new ≡ record { side = side; bytes = bytes ++ concat pieces; refused = None })
gathers side bytes [] [] new rest message fed read =
    (All-nil (IsOnTheWay message), fed ∙ ap (λ b. record { side = side; bytes = b; refused = None }) (sym (append-nil bytes)))
gathers side bytes [] (result ∷ results) new rest message fed read = absurd fed
gathers side bytes (piece ∷ pieces) [] new rest message fed read = absurd fed
gathers side bytes (piece ∷ pieces) (result ∷ results) new rest message fed read =
    let old : Gathered = record { side = side; bytes = bytes; refused = None } in
    let t : Takes old piece result fed.0 = takes old fed.0 piece result refl fed.2 fed.1 in
    let ahead : IsReadAs side ((bytes ++ piece) ++ (concat pieces ++ rest)) (Ok message) =
    subst (λ b. IsReadAs side b (Ok message)) (cut bytes piece (concat pieces) rest) read in
    let way : IsOnTheWay message result =
    on_the_way message t.progress.0 result (fronts_wait side (bytes ++ piece) (concat pieces ++ rest) t.progress.0 message t.progress.1 ahead) t.progress.2 in
    let next_is = t.gathered ∙ ap (λ f. record { side = side; bytes = bytes ++ piece; refused = f }) (none_refused message result way) in
    let later = gathers side (bytes ++ piece) pieces results new rest message (subst (λ g. AreFed g pieces results new) next_is fed.3) ahead in (
      All-cons (IsOnTheWay message) result results way later.0,
      later.1 ∙ ap (λ b. record { side = side; bytes = b; refused = None }) (append_assoc bytes piece (concat pieces)),
    )

pub any_cut : AnyCut
any_cut = λ side pieces results new rest message fed read. gathers side [] pieces results new rest message fed read

pub wholes_are_told : WholesAreTold
wholes_are_told = λ old new piece result message t read.
    t.progress.2
    ∙ ap progress (readings_settle old.side (old.bytes ++ piece) [] (Ok message) t.progress.0 read
    (subst (λ b. IsReadAs old.side b t.progress.0) (sym (append-nil (old.bytes ++ piece))) t.progress.1))
