-- Queues of packets that are kept by their places, and what a put and a take make of them.
use Rattle.std.proofs.Common.{◌≡◌, ℕ, suc, ◌+◌, ◌-◌, ◌<◌, ◌≤◌, min, List, [], ◌∷◌, ◌++◌, length, take, drop, insert, map, Bool, Option, Some, None, refl, ap, sym, length-take-le, ◌∙◌, arith}
use Rattle.std.proofs.lemmas.List.{get_or_append_left, map-append, take-map, drop-map, length-map, length-drop, drop-drop, drop-take, take_min, drop_min, drop-append-le}
use Rattle.std.proofs.lemmas.List.Elements.{All-take, All-drop}
use Rattle.std.proofs.Math.Seq.{get_or-append_seam, take-add}
use Rattle.cells_edge.specs.Carrying.{Carrying, kind_at, queue_after, is_fault, counted_if, after_put, after_take}
use Rattle.cells_edge.specs.Memory.{counted}
use Rattle.cells_edge.specs.Places.{packet_at, packets_at, no_packet, AreWithin}
use Rattle.cells_edge.specs.declared.memory_wire.Disturbance.{Disturbance}
use Rattle.cells_edge.specs.declared.memory_wire.DisturbanceKind.{DisturbanceKind}
use Rattle.cells_edge.specs.declared.memory_wire.DisturbanceKind.TheVariants.{Lose, Repeat, Swap, Fail}
use Rattle.cells_edge.specs.declared.wire.Packet.{Packet}

-- a queue of other things goes the same way
pub queue_mapped : {A B : Type 0} (f : A → B) (kind : Option DisturbanceKind) (x : A) (q : List A) → map f (queue_after kind x q) ≡ queue_after kind (f x) (map f q)
queue_mapped f None x q = map-append f q (x ∷ [])
queue_mapped f (Some Lose) x q = refl
queue_mapped f (Some Repeat) x q = map-append f q (x ∷ x ∷ [])
queue_mapped f (Some Swap) x q =
    map-append f (take (length q - 1) q) (x ∷ drop (length q - 1) q)
    ∙ (λ i. sym (take-map f (length q - 1) q) i ++ f x ∷ sym (drop-map f (length q - 1) q) i)
    ∙ ap (λ n. take (n - 1) (map f q) ++ f x ∷ drop (n - 1) (map f q)) (sym (length-map q f))
queue_mapped f (Some Fail) x q = refl

module _ (sent : List Packet) (packet : Packet) where
  -- a packet behind the others changes none of them
  pub packets_more : (places : List ℕ) → AreWithin (length sent) places → packets_at (sent ++ packet ∷ []) places ≡ packets_at sent places
  packets_more [] within = refl
  packets_more (p ∷ ps) within =
      let first : p < length sent = within 0 0 (omega arith) in
      let rest : AreWithin (length sent) ps = λ k d lt. within (suc k) d (omega arith) in
      λ i. get_or_append_left sent (packet ∷ []) no_packet p first i ∷ packets_more ps rest i

  -- the queue after a put
  pub queue_put : (kind : Option DisturbanceKind) (old new : List ℕ) → AreWithin (length sent) old → new ≡ queue_after kind (length sent) old
      → packets_at (sent ++ packet ∷ []) new ≡ queue_after kind packet (packets_at sent old)
  queue_put kind old new within is =
      ap (packets_at (sent ++ packet ∷ [])) is
      ∙ queue_mapped (packet_at (sent ++ packet ∷ [])) kind (length sent) old
      ∙ (λ i. queue_after kind (get_or-append_seam sent packet [] no_packet i) (packets_more old within i))

-- what stands behind the first t, where something was inserted m behind them
pub insert_behind : (t m n : ℕ) (xs : List ℕ) (y : ℕ) → n ≡ t + m → n ≤ length xs → drop t (insert xs n y) ≡ insert (drop t xs) m y
insert_behind t m n xs y is within =
    rw is (drop-append-le t (take (t + m) xs) (y ∷ drop (t + m) xs) (omega (arith, length-take-le (t + m) xs (omega arith)))
    ∙ (λ i. drop-take t m xs i ++ y ∷ sym (drop-drop m t xs) i))

-- what contracts see of the fields of a wire
abbrev pub seen_as : List Packet → List ℕ → ℕ → List Disturbance → ℕ → ℕ → Carrying
seen_as sent places taken disturbances calls faults = record {
  sent = sent;
  queued = packets_at sent (drop taken places);
  handed = packets_at sent (take taken places);
  disturbances = disturbances;
  calls = calls;
  faults = faults;
}

module _ (sent : List Packet) (places : List ℕ) (taken : ℕ) (disturbances : List Disturbance) (calls faults : ℕ) (within : AreWithin (length sent) places) where
  -- the wire after a put, from what each step of it gave
  pub seen_put : (packet : Packet) (sent' : List Packet) (room new : List ℕ) (place : ℕ) (kind : Option DisturbanceKind) (fault : Bool) (calls' faults' : ℕ)
      → sent' ≡ sent ++ packet ∷ []
      → calls' ≡ counted calls
      → kind ≡ kind_at disturbances calls'
      → place ≡ length sent
      → room ≡ places
      → drop taken new ≡ queue_after kind place (drop taken room)
      → take taken new ≡ take taken room
      → fault ≡ is_fault kind (length room - taken)
      → faults' ≡ counted_if fault faults
      → seen_as sent' new taken disturbances calls' faults' ≡ after_put packet (seen_as sent places taken disturbances calls faults)
  seen_put packet sent' room new place kind fault calls' faults' is_sent is_calls is_kind is_place is_room queued handed faulty is_faults =
      let befell : kind ≡ kind_at disturbances (counted calls) = is_kind ∙ ap (kind_at disturbances) is_calls in
      let queue : drop taken new ≡ queue_after (kind_at disturbances (counted calls)) (length sent) (drop taken places) = queued ∙ (λ i. queue_after (befell i) (is_place i) (drop taken (is_room i))) in
      let given : take taken new ≡ take taken places = handed ∙ ap (take taken) is_room in
      let size : length places - taken ≡ length (packets_at sent (drop taken places)) = sym (length-map (drop taken places) (packet_at sent) ∙ length-drop taken places) in
      let behind : AreWithin (length sent) (drop taken places) = All-drop (λ place. place < length sent) taken places within in
      let front : AreWithin (length sent) (take taken places) = All-take (λ place. place < length sent) taken places within in
      λ i. record {
        sent = is_sent i;
        queued = (ap (λ l. packets_at l (drop taken new)) is_sent ∙ queue_put sent packet (kind_at disturbances (counted calls)) (drop taken places) (drop taken new) behind queue) i;
        handed = ((λ j. packets_at (is_sent j) (given j)) ∙ packets_more sent packet (take taken places) front) i;
        disturbances = disturbances;
        calls = is_calls i;
        faults = (is_faults ∙ ap (λ b. counted_if b faults) (faulty ∙ (λ j. is_fault (befell j) (length (is_room j) - taken)) ∙ ap (is_fault (kind_at disturbances (counted calls))) size)) i;
      }

  -- the wire after a take that passed
  pub seen_take : (calls' taken' : ℕ) → calls' ≡ counted calls → taken' ≡ min (taken + 1) (length places)
      → seen_as sent places taken' disturbances calls' faults ≡ after_take (seen_as sent places taken disturbances calls faults)
  seen_take calls' taken' is_calls is_taken = λ i. record {
    sent = sent;
    queued = (ap (packets_at sent) (ap (λ n. drop n places) is_taken ∙ drop_min (taken + 1) places ∙ sym (drop-drop 1 taken places)) ∙ sym (drop-map (packet_at sent) 1 (drop taken places))) i;
    handed = (ap (packets_at sent) (ap (λ n. take n places) is_taken ∙ take_min (taken + 1) places ∙ take-add taken 1 places) ∙ map-append (packet_at sent) (take taken places) (take 1 (drop taken places))
        ∙ ap (λ l. packets_at sent (take taken places) ++ l) (sym (take-map (packet_at sent) 1 (drop taken places)))) i;
    disturbances = disturbances;
    calls = is_calls i;
    faults = faults;
  }
