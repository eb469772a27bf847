-- What a line puts on the wire: what its own event puts, and then what packets that are handed over bring about.
use Rattle.std.proofs.Common.{◌≡◌, ℕ, ◌+◌, ◌-◌, true, false, cond, List, [], ◌∷◌, ◌++◌, length, Some, refl, sym, ◌∙◌, ap, subst, append_assoc, length-append}
use Rattle.std.specs.List.{slice_get}
use Rattle.std.proofs.lemmas.List.{append-nil}
use Rattle.cells_edge.specs.declared.wire.Wire.{Ghosts}
use Rattle.claim_laws.specs.World.{Packet}
use Rattle.cells_script.specs.declared.line.Line.{Line}
use Rattle.cells_script.specs.declared.line.Line.TheVariants.{CreateOrganization, CreateUser, CreateTopGroup, CreateGroup, CreateProject, CreateKey, CreateAddress, CreateDomain, Rename, Remove, Range as RangeLine, Reconcile, Verify, ClassifyFirst, ClassifyCell, ClassifySession, ClassifyClaim, ClassifyPath, Route, Lose, Repeat, Wait, RestartService, Restart}
use Rattle.cells_world.specs.Answers.{is_tag}
use Rattle.cells_world.specs.Lines.{cell_of_change}
use Rattle.cells_world.specs.Packets.{spelled, spelled_from, after_put, after_puts}
use Rattle.cells_world.specs.Post.{packets_of, IsGiven, Puts, Sends, SendsSome, RepeatsAt}
use Rattle.cells_world.specs.Puts.{PutsFor, armed_by, packet_tagged, puts_again, spelled_if}
use Rattle.cells_world.specs.declared.post.Post.{Post}
use Rattle.cells_world.proofs.Sending.{given_then, puts_append, puts_no_packet, puts_spelled, spelled_append}

-- a line that neither puts a packet again nor arms a loss
pub record IsPlain (line : Line) : Type 0 where
  pub again : (sent : List Packet) → puts_again line sent ≡ []
  pub armed : (armed : List ℕ) → armed_by line armed ≡ armed

module _ {N : Type 0} (n : Ghosts N) where
  -- packets that are sent by such a line
  pub puts_sent : (line : Line) (a b : N) (p q : Post) → IsPlain line → (ps : List Packet) → Sends (Puts n) a b p q ps → PutsFor (Puts n) line a b p q
  puts_sent line a b p q plain ps sends =
      let spelled_all = spelled_from (length (packets_of p)) ps in
      let puts = ap (λ xs. xs ++ spelled_all) (plain.again (packets_of p)) in
      let armed = plain.armed p.armed.items in
      record {
        packets = ps;
        sent = sends.sent;
        put = record {
          put = subst (λ left. Puts n a b left (puts_again line (packets_of p) ++ spelled_all)) (sym armed) (subst (Puts n a b p.armed.items) (sym puts) sends.put);
          left = sends.armed
              ∙ sym (puts_spelled (length (packets_of p)) ps p.armed.items)
              ∙ ap (λ xs. after_puts xs p.armed.items) (sym puts)
              ∙ ap (after_puts (puts_again line (packets_of p) ++ spelled_all)) (sym armed);
        };
      }

  -- nothing is put
  pub puts_nothing : (line : Line) (a : N) (p q : Post) → puts_again line (packets_of p) ≡ [] → packets_of q ≡ packets_of p → q.armed.items ≡ armed_by line p.armed.items → PutsFor (Puts n) line a a p q
  puts_nothing line a p q again sent armed =
      let puts = ap (λ xs. xs ++ []) again in
      record {
        packets = [];
        sent = sent ∙ sym (append-nil (packets_of p));
        put = record {
          put = subst (Puts n a a (armed_by line p.armed.items)) (sym puts) (puts_no_packet n a (armed_by line p.armed.items));
          left = armed ∙ ap (λ xs. after_puts xs (armed_by line p.armed.items)) (sym puts);
        };
      }

  -- a packet is put again
  pub puts_repeated : (tag place : ℕ) (a b : N) (p q : Post) → is_tag tag (length (packets_of p)) ≡ true → place ≡ tag - 1 → packets_of q ≡ packets_of p → q.armed.items ≡ after_put p.armed.items → RepeatsAt n a b p place → PutsFor (Puts n) (Repeat tag) a b p q
  puts_repeated tag place a b p q tagged is_place sent armed repeats =
      let in_place : slice_get (packets_of p) (tag - 1) ≡ Some repeats.0 = ap (slice_get (packets_of p)) (sym is_place) ∙ repeats.1 in
      let one : packet_tagged tag (packets_of p) ≡ spelled place repeats.0 ∷ [] =
      ap (λ x. cond x (spelled_if (tag - 1) (slice_get (packets_of p) (tag - 1))) []) tagged ∙ ap (spelled_if (tag - 1)) in_place ∙ ap (λ k. spelled k repeats.0 ∷ []) (sym is_place) in
      let puts = ap (λ xs. xs ++ []) one in
      record {
        packets = [];
        sent = sent ∙ sym (append-nil (packets_of p));
        put = record {
          put = subst (Puts n a b p.armed.items) (sym puts) repeats.2;
          left = armed ∙ ap (λ xs. after_puts xs p.armed.items) (sym puts);
        };
      }

  -- and then packets are sent
  pub puts_on : (line : Line) (a b c : N) (p q r : Post) → PutsFor (Puts n) line a b p q → SendsSome (IsGiven n) b c q r → PutsFor (IsGiven n) line a c p r
  puts_on line a b c p q r first second =
      let ps = first.packets in
      let qs = second.0 in
      let sends = second.1 in
      let k = length (packets_of p) in
      let again = puts_again line (packets_of p) in
      let armed = armed_by line p.armed.items in
      let before = again ++ spelled_from k ps in
      let later : length (packets_of q) ≡ k + length ps = ap length first.sent ∙ length-append (packets_of p) ps in
      let then_spelled : spelled_from (length (packets_of q)) qs ≡ spelled_from (k + length ps) qs = ap (λ m. spelled_from m qs) later in
      let joined : before ++ spelled_from (length (packets_of q)) qs ≡ again ++ spelled_from k (ps ++ qs) =
      ap (λ xs. before ++ xs) then_spelled ∙ append_assoc again (spelled_from k ps) (spelled_from (k + length ps) qs) ∙ ap (λ xs. again ++ xs) (sym (spelled_append k ps qs)) in
      record {
        packets = ps ++ qs;
        sent = sends.sent ∙ ap (λ x. x ++ qs) first.sent ∙ append_assoc (packets_of p) ps qs;
        put = record {
          put = subst (IsGiven n a c armed) joined (given_then n a b c armed q.armed.items before (spelled_from (length (packets_of q)) qs) first.put.left first.put.put.given sends.put);
          left = sends.armed
              ∙ sym (puts_spelled (length (packets_of q)) qs q.armed.items)
              ∙ ap (after_puts (spelled_from (length (packets_of q)) qs)) first.put.left
              ∙ sym (puts_append before (spelled_from (length (packets_of q)) qs) armed)
              ∙ ap (λ x. after_puts x armed) joined;
        };
      }

-- no packet has another tag
pub none_tagged : (tag : ℕ) (sent : List Packet) → is_tag tag (length sent) ≡ false → packet_tagged tag sent ≡ []
none_tagged tag sent is = ap (λ x. cond x (spelled_if (tag - 1) (slice_get sent (tag - 1))) []) is

-- a line that asks for a change is plain
pub change_plain : (line : Line) (cell : ℕ) → cell_of_change line ≡ Some cell → IsPlain line
change_plain (CreateOrganization of name) cell is = record { again = λ sent. refl; armed = λ armed. refl }
change_plain (CreateUser of name organization) cell is = record { again = λ sent. refl; armed = λ armed. refl }
change_plain (CreateTopGroup of name organization) cell is = record { again = λ sent. refl; armed = λ armed. refl }
change_plain (CreateGroup of route) cell is = record { again = λ sent. refl; armed = λ armed. refl }
change_plain (CreateProject of route) cell is = record { again = λ sent. refl; armed = λ armed. refl }
change_plain (CreateKey of user value) cell is = record { again = λ sent. refl; armed = λ armed. refl }
change_plain (CreateAddress of user value) cell is = record { again = λ sent. refl; armed = λ armed. refl }
change_plain (CreateDomain of route value) cell is = record { again = λ sent. refl; armed = λ armed. refl }
change_plain (Rename of bucket value name) cell is = record { again = λ sent. refl; armed = λ armed. refl }
change_plain (Remove of bucket value) cell is = record { again = λ sent. refl; armed = λ armed. refl }
change_plain (RangeLine of number) cell is = absurd cc
change_plain (Reconcile of) cell is = absurd cc
change_plain (Verify of span) cell is = absurd cc
change_plain ClassifyFirst cell is = absurd cc
change_plain (ClassifyCell of) cell is = absurd cc
change_plain (ClassifySession text) cell is = absurd cc
change_plain (ClassifyClaim bucket value) cell is = absurd cc
change_plain (ClassifyPath text) cell is = absurd cc
change_plain (Route method target cookie) cell is = absurd cc
change_plain (Lose number) cell is = absurd cc
change_plain (Repeat tag) cell is = absurd cc
change_plain (Wait seconds) cell is = absurd cc
change_plain RestartService cell is = absurd cc
change_plain (Restart of) cell is = absurd cc

-- a line that puts nothing of itself
pub puts_none : {N : Type 0} (n : Ghosts N) (line : Line) (a : N) (p : Post) → IsPlain line → PutsFor (Puts n) line a a p p
puts_none n line a p plain = puts_nothing n line a p p (plain.again (packets_of p)) refl (sym (plain.armed p.armed.items))
