use Rattle.std.proofs.Common.{◌≡◌, List, [], ◌∷◌, ◌++◌, sym, ◌∙◌, ap, subst, arith}
use Rattle.std.proofs.lemmas.List.Elements.{All-nil, All-cons}
use Rattle.claim_types.specs.Bounds.{IsKey, IsCreate, AreOperations}
use Rattle.claim_types.specs.declared.key.Bucket.TheVariants.{Route}
use Rattle.claim_types.specs.declared.key.ClaimKey.{ClaimKey}
use Rattle.claim_types.specs.declared.operations.Create.{Create}
use Rattle.claim_types.specs.declared.record.Kind.TheVariants.{Group}
use Rattle.claim_types.proofs.KeyRead.{key_of-again}
use Rattle.service_bench.proofs.asking.begin.Goals as goal

-- one create within its bounds, and no destroy
one : (create : Create) (cs : List Create) (ks : List ClaimKey) → cs ≡ create ∷ [] → ks ≡ [] → IsCreate create → AreOperations (record { creates = cs; destroys = ks })
one create cs ks is none each =
    subst (λ (x : List Create). AreOperations (record { creates = x; destroys = ks })) (sym is)
    (subst (λ (y : List ClaimKey). AreOperations (record { creates = create ∷ []; destroys = y })) (sym none)
    (record { number = omega arith; creates = All-cons IsCreate create [] each (All-nil IsCreate); destroys = All-nil IsKey }))

pub returns : goal.returns
returns c =
    let lease = c.in_ok-lease.lease in
    let is_lease = c.in_ok-lease.ensures {u = tt} in
    let least = is_lease.attempt_least in
    let most = is_lease.attempt_most in
    let create : Create = record { key = c.in_ok-key.key; subject = record { kind = Group; id = lease.attempt }; origin = record { table = Group; row = lease.attempt } } in
    let key : IsKey c.in_ok-key.key = record { unchanged = key_of-again Route c.as_bytes.result.now c.in_ok-key.key (c.in_ok-key.ensures {u = tt}).key } in
    let is_create : IsCreate create = record {
      key = key;
      subject = record { kind = tt; id = (least, omega (arith, most)) };
      origin = record { row = (least, omega (arith, most)) };
    } in
    let creates = (c.in_ok-push.ensures {u = tt}).ok ∙ ap (λ (xs : List Create). xs ++ create ∷ []) c.new-creates.ensures in
    (is_lease, one create c.push.new.self c.new-destroys.result creates c.new-destroys.ensures is_create)
