-- One cell and the service: what is lost, comes again or comes late, and a cell that is cut off.
use Rattle.std.proofs.Common.{◌≡◌, true, false, [], ◌∷◌, ◌++◌, Some, None, ◌∙◌, ap}
use Rattle.std.specs.FinMap as map
use Rattle.std.specs.FinSet as set
use Rattle.claim_types.specs.Order.{key_cmp}
use Rattle.claim_types.specs.declared.lease.Holding.{Holding}
use Rattle.claim_types.specs.declared.lease.LeaseId.{LeaseId}
use Rattle.claim_types.specs.declared.record.Kind.TheVariants.{Organization}
use Rattle.claim_types.specs.declared.rule.Attempt.{Attempt}
use Rattle.claim_types.specs.declared.message.Request.TheVariants.{Begin, Commit, Rollback, List as ListRequest, Range as RangeRequest}
use Rattle.claim_types.specs.declared.message.Reply.{Reply}
use Rattle.claim_types.specs.declared.message.Reply.TheVariants.{Begun, Leases as LeasesReply, RolledBack as RolledBackReply}
use Rattle.claim_types.specs.declared.message.BegunResult.TheVariants.{Good}
use Rattle.claim_types.specs.declared.message.RolledBackResult.TheVariants.{Good as RolledBackGood}
use Rattle.claim_types.specs.declared.lease.How.TheVariants.{RolledBack, Committed as AsCommitted}
use Rattle.claim_types.specs.declared.step.Step.TheVariants.{Recorded as RecordedStep}
use Rattle.claim_types.specs.declared.rule.Note.TheVariants.{Ended}
use Rattle.std.specs.Prelude.{codes}
use Rattle.claim_map.specs.State.{Tree}
use Rattle.claim_map.specs.Claims.{claims_of, operations_between}
use Rattle.claim_map.specs.Rules.{rule_of}
use Rattle.claim_laws.specs.Nodes.{Agent, with_range, with_attempt, without_attempt, with_row}
use Rattle.claim_laws.specs.Acts.{packet_of}
use Rattle.claim_laws.specs.Stops.{reopened_agent}
use Rattle.claim_map.specs.Legal.{ask, answer}
use Rattle.claim_laws.specs.World.{World}
use Rattle.claim_laws.specs.Events.{asks, requests, hands, cuts, reconciles, happens, run}
use Rattle.claim_laws.specs.Facts.{new_agent, new_world}
use Rattle.claim_laws.specs.Examples.{registry, low_range, lease_of, path_of, acme, acme_claimed, one_change, one_change_trace, repeated_begin, repeated_begin_trace, threshold_reached, threshold_reached_trace, late_answer, recorded_and_cut_off, recorded_and_cut_off_trace, cut_off_unrecorded, cut_off_unrecorded_trace, stale_list, stale_list_trace, ten_events, ten_events_trace, committed_and_cut_off, committed_and_cut_off_trace, cut_off_uncommitted, cut_off_uncommitted_trace}
use Rattle.claim_laws.proofs.Lookups.{lookups}
use Rattle.claim_laws.proofs.Afterwards.{ranged, leased, recorded, committed, row_gone}

abbrev l : LeaseId
l = lease_of 1 1

abbrev attempt : Attempt
attempt = record { change = acme; ops = acme_claimed; version = 0; since = 0 }

abbrev knowing : Agent
knowing = with_range new_agent low_range

abbrev waiting : Agent
waiting = with_attempt knowing l attempt

abbrev with_its_row : Agent
with_its_row = with_row waiting l acme_claimed

abbrev tree : Tree
tree = record { records = record { id = 1; kind = Organization; parent = 0; name = codes "acme" } ∷ []; used = 1; version = 1 }

abbrev holder : map.FinMap key_cmp Holding
holder = map.insert map.empty (path_of (codes "acme")) (record { cell = 1; subject = record { kind = Organization; id = 1 }; origin = record { table = Organization; row = 1 } })

abbrev begun : World
begun = leased l attempt knowing (ranged low_range new_agent (new_world registry))

abbrev made : World
made = recorded l attempt waiting tree begun

to_begun : run registry (requests (RangeRequest 1 1) ∷ hands 0 ∷ hands 1 ∷ asks 1 acme 0 ∷ hands 2 ∷ []) (new_world registry) ≡ begun
unfolding happens rule_of claims_of operations_between
to_begun = simp lookups

to_made : run registry (hands 3 ∷ []) begun ≡ made
unfolding happens rule_of claims_of operations_between
to_made = simp lookups

-- nothing is lost
finished : (run registry (hands 4 ∷ hands 5 ∷ []) made).trace ≡ one_change_trace
unfolding happens
finished = simp lookups

pub one_change_is : (run registry one_change (new_world registry)).trace ≡ one_change_trace
one_change_is =
    ap (λ w. (run registry (hands 3 ∷ hands 4 ∷ hands 5 ∷ []) w).trace) to_begun
    ∙ ap (λ w. (run registry (hands 4 ∷ hands 5 ∷ []) w).trace) to_made ∙ finished

-- the answer to the begin is lost
again : (run registry (hands 2 ∷ hands 4 ∷ hands 5 ∷ hands 6 ∷ []) begun).trace ≡ repeated_begin_trace
unfolding happens rule_of claims_of operations_between
again = simp lookups

pub repeated_begin_is : (run registry repeated_begin (new_world registry)).trace ≡ repeated_begin_trace
repeated_begin_is = ap (λ w. (run registry (hands 2 ∷ hands 4 ∷ hands 5 ∷ hands 6 ∷ []) w).trace) to_begun ∙ again

-- the page that lists the lease
abbrev listing : Reply
listing = LeasesReply 1 (record { leases = l ∷ []; more = false })

-- so it is, and the cell reconciles before the threshold
abbrev left_waiting : World
left_waiting = record begun {
  agents = map.insert (map.insert begun.agents 1 waiting) 1 waiting;
  sent = begun.sent ++ packet_of (ListRequest 1 None) ∷ record { message = answer listing; answers = 5 } ∷ [];
  handed = begun.handed ++ Some (ask (ListRequest 1 None)) ∷ Some (answer listing) ∷ [];
}

to_left_waiting : run registry (reconciles 1 599 ∷ hands 4 ∷ hands 5 ∷ []) begun ≡ left_waiting
unfolding happens
to_left_waiting = simp lookups

-- and at the threshold
abbrev given_up : World
given_up = record left_waiting {
  claims = record left_waiting.claims { open_leases = map.remove left_waiting.claims.open_leases l; settled = map.insert left_waiting.claims.settled l RolledBack };
  agents = map.insert (map.insert left_waiting.agents 1 (without_attempt waiting l)) 1 (without_attempt waiting l);
  sent = left_waiting.sent ++ packet_of (ListRequest 1 None) ∷ record { message = answer listing; answers = 7 } ∷ packet_of (Rollback l) ∷ record { message = answer (RolledBackReply l RolledBackGood); answers = 9 } ∷ [];
  handed = left_waiting.handed ++ Some (ask (ListRequest 1 None)) ∷ Some (answer listing) ∷ Some (ask (Rollback l)) ∷ [];
  trace = threshold_reached_trace;
  notes = Ended l ∷ [];
}

to_given_up : run registry (reconciles 1 600 ∷ hands 6 ∷ hands 7 ∷ hands 8 ∷ []) left_waiting ≡ given_up
unfolding happens
to_given_up = simp lookups

settled : (run registry (hands 9 ∷ hands 3 ∷ []) given_up).trace ≡ threshold_reached_trace
unfolding happens
settled = simp lookups

pub late_answer_is : (run registry late_answer (new_world registry)).trace ≡ threshold_reached_trace
late_answer_is =
    ap (λ w. (run registry (reconciles 1 599 ∷ hands 4 ∷ hands 5 ∷ reconciles 1 600 ∷ hands 6 ∷ hands 7 ∷ hands 8 ∷ hands 9 ∷ hands 3 ∷ []) w).trace) to_begun
    ∙ ap (λ w. (run registry (reconciles 1 600 ∷ hands 6 ∷ hands 7 ∷ hands 8 ∷ hands 9 ∷ hands 3 ∷ []) w).trace) to_left_waiting
    ∙ ap (λ w. (run registry (hands 9 ∷ hands 3 ∷ []) w).trace) to_given_up ∙ settled

told : (happens registry given_up (hands 9)).trace ≡ threshold_reached_trace
unfolding happens
told = simp lookups

pub threshold_reached_is : (run registry threshold_reached (new_world registry)).trace ≡ threshold_reached_trace
threshold_reached_is =
    ap (λ w. (run registry (reconciles 1 599 ∷ hands 4 ∷ hands 5 ∷ reconciles 1 600 ∷ hands 6 ∷ hands 7 ∷ hands 8 ∷ hands 9 ∷ []) w).trace) to_begun
    ∙ ap (λ w. (run registry (reconciles 1 600 ∷ hands 6 ∷ hands 7 ∷ hands 8 ∷ hands 9 ∷ []) w).trace) to_left_waiting
    ∙ ap (λ w. (happens registry w (hands 9)).trace) to_given_up ∙ told

-- the cell is cut off, and its entry stands
abbrev cut_short : World
cut_short = record made { agents = map.insert made.agents 1 (reopened_agent with_its_row); sent = begun.sent }

to_cut_short : happens registry begun (cuts 3 true) ≡ cut_short
unfolding happens rule_of claims_of operations_between
to_cut_short = simp lookups

mended : (run registry (reconciles 1 0 ∷ hands 4 ∷ hands 5 ∷ hands 6 ∷ hands 7 ∷ []) cut_short).trace ≡ recorded_and_cut_off_trace
unfolding happens
mended = simp lookups

pub recorded_and_cut_off_is : (run registry recorded_and_cut_off (new_world registry)).trace ≡ recorded_and_cut_off_trace
recorded_and_cut_off_is =
    ap (λ w. (run registry (cuts 3 true ∷ reconciles 1 0 ∷ hands 4 ∷ hands 5 ∷ hands 6 ∷ hands 7 ∷ []) w).trace) to_begun
    ∙ ap (λ w. (run registry (reconciles 1 0 ∷ hands 4 ∷ hands 5 ∷ hands 6 ∷ hands 7 ∷ []) w).trace) to_cut_short ∙ mended

-- or it does not
abbrev cut_before : World
cut_before = record begun { agents = map.insert begun.agents 1 (reopened_agent waiting); handed = begun.handed ++ Some (answer (Begun l Good)) ∷ [] }

to_cut_before : happens registry begun (cuts 3 false) ≡ cut_before
unfolding happens rule_of claims_of operations_between
to_cut_before = simp lookups

rolled_back : (run registry (reconciles 1 0 ∷ hands 4 ∷ hands 5 ∷ hands 6 ∷ hands 7 ∷ []) cut_before).trace ≡ cut_off_unrecorded_trace
unfolding happens
rolled_back = simp lookups

pub cut_off_unrecorded_is : (run registry cut_off_unrecorded (new_world registry)).trace ≡ cut_off_unrecorded_trace
cut_off_unrecorded_is =
    ap (λ w. (run registry (cuts 3 false ∷ reconciles 1 0 ∷ hands 4 ∷ hands 5 ∷ hands 6 ∷ hands 7 ∷ []) w).trace) to_begun
    ∙ ap (λ w. (run registry (reconciles 1 0 ∷ hands 4 ∷ hands 5 ∷ hands 6 ∷ hands 7 ∷ []) w).trace) to_cut_before ∙ rolled_back

-- the commit is lost, and that of a reconciliation too
abbrev listed : World
listed = record made {
  agents = map.insert (map.insert made.agents 1 with_its_row) 1 with_its_row;
  sent = made.sent ++ packet_of (Commit l) ∷ packet_of (ListRequest 1 None) ∷ record { message = answer listing; answers = 7 } ∷ packet_of (Commit l) ∷ [];
  handed = made.handed ++ Some (ask (ListRequest 1 None)) ∷ Some (answer listing) ∷ [];
}

to_listed : run registry (reconciles 1 0 ∷ hands 6 ∷ hands 7 ∷ []) made ≡ listed
unfolding happens
to_listed = simp lookups

abbrev row_is_gone : World
row_is_gone = row_gone l with_its_row (committed 9 l holder listed)

to_row_is_gone : run registry (hands 8 ∷ hands 9 ∷ []) listed ≡ row_is_gone
unfolding happens
to_row_is_gone = simp lookups

listed_again : (run registry (hands 7 ∷ hands 10 ∷ hands 11 ∷ []) row_is_gone).trace ≡ stale_list_trace
unfolding happens
listed_again = simp lookups

pub stale_list_is : (run registry stale_list (new_world registry)).trace ≡ stale_list_trace
stale_list_is =
    ap (λ w. (run registry (hands 3 ∷ reconciles 1 0 ∷ hands 6 ∷ hands 7 ∷ hands 8 ∷ hands 9 ∷ hands 7 ∷ hands 10 ∷ hands 11 ∷ []) w).trace) to_begun
    ∙ ap (λ w. (run registry (reconciles 1 0 ∷ hands 6 ∷ hands 7 ∷ hands 8 ∷ hands 9 ∷ hands 7 ∷ hands 10 ∷ hands 11 ∷ []) w).trace) to_made
    ∙ ap (λ w. (run registry (hands 8 ∷ hands 9 ∷ hands 7 ∷ hands 10 ∷ hands 11 ∷ []) w).trace) to_listed
    ∙ ap (λ w. (run registry (hands 7 ∷ hands 10 ∷ hands 11 ∷ []) w).trace) to_row_is_gone ∙ listed_again

-- the begin comes twice, and the cell is cut off
abbrev cut_at_the_second : World
cut_at_the_second = record begun {
  claims = made.claims;
  agents = map.insert (map.insert begun.agents 1 with_its_row) 1 (reopened_agent with_its_row);
  sent = begun.sent ++ record { message = answer (Begun l Good); answers = 3 } ∷ [];
  handed = begun.handed ++ Some (ask (Begin l acme_claimed)) ∷ Some (answer (Begun l Good)) ∷ [];
  trace = begun.trace ++ record { take = 5; step = RecordedStep l acme } ∷ [];
}

to_the_second_cut : run registry (hands 2 ∷ cuts 4 true ∷ []) begun ≡ cut_at_the_second
unfolding happens rule_of claims_of operations_between
to_the_second_cut = simp lookups

-- it reconciles, and the commit that the page asks for is sent
abbrev second_agent : Agent
second_agent = reopened_agent with_its_row

abbrev listed_at_the_second : World
listed_at_the_second = record cut_at_the_second {
  agents = map.insert (map.insert cut_at_the_second.agents 1 second_agent) 1 second_agent;
  sent = cut_at_the_second.sent ++ packet_of (Commit l) ∷ packet_of (ListRequest 1 None) ∷ record { message = answer listing; answers = 7 } ∷ packet_of (Commit l) ∷ [];
  handed = cut_at_the_second.handed ++ Some (ask (ListRequest 1 None)) ∷ Some (answer listing) ∷ [];
}

to_the_second_list : run registry (reconciles 1 0 ∷ hands 6 ∷ hands 7 ∷ []) cut_at_the_second ≡ listed_at_the_second
unfolding happens
to_the_second_list = simp lookups

the_rest_of_ten : (run registry (hands 8 ∷ hands 9 ∷ hands 7 ∷ []) listed_at_the_second).trace ≡ ten_events_trace
unfolding happens
the_rest_of_ten = simp lookups

pub ten_events_are : (run registry ten_events (new_world registry)).trace ≡ ten_events_trace
ten_events_are =
    ap (λ w. (run registry (hands 2 ∷ cuts 4 true ∷ reconciles 1 0 ∷ hands 6 ∷ hands 7 ∷ hands 8 ∷ hands 9 ∷ hands 7 ∷ []) w).trace) to_begun
    ∙ ap (λ w. (run registry (reconciles 1 0 ∷ hands 6 ∷ hands 7 ∷ hands 8 ∷ hands 9 ∷ hands 7 ∷ []) w).trace) to_the_second_cut
    ∙ ap (λ w. (run registry (hands 8 ∷ hands 9 ∷ hands 7 ∷ []) w).trace) to_the_second_list ∙ the_rest_of_ten

-- the service is cut off while it settles the lease
abbrev settled_and_cut : World
settled_and_cut = record made {
  claims = record made.claims { holder = holder; open_leases = map.remove made.claims.open_leases l; recorded = set.remove made.claims.recorded l; settled = map.insert made.claims.settled l AsCommitted };
  handed = made.handed ++ Some (ask (Commit l)) ∷ [];
  trace = one_change_trace;
}

to_settled_and_cut : happens registry made (cuts 4 true) ≡ settled_and_cut
unfolding happens
to_settled_and_cut = simp lookups

told_again : (run registry (reconciles 1 0 ∷ hands 5 ∷ hands 6 ∷ hands 7 ∷ hands 8 ∷ []) settled_and_cut).trace ≡ committed_and_cut_off_trace
unfolding happens
told_again = simp lookups

pub committed_and_cut_off_is : (run registry committed_and_cut_off (new_world registry)).trace ≡ committed_and_cut_off_trace
committed_and_cut_off_is =
    ap (λ w. (run registry (hands 3 ∷ cuts 4 true ∷ reconciles 1 0 ∷ hands 5 ∷ hands 6 ∷ hands 7 ∷ hands 8 ∷ []) w).trace) to_begun
    ∙ ap (λ w. (run registry (cuts 4 true ∷ reconciles 1 0 ∷ hands 5 ∷ hands 6 ∷ hands 7 ∷ hands 8 ∷ []) w).trace) to_made
    ∙ ap (λ w. (run registry (reconciles 1 0 ∷ hands 5 ∷ hands 6 ∷ hands 7 ∷ hands 8 ∷ []) w).trace) to_settled_and_cut ∙ told_again

abbrev unsettled_and_cut : World
unsettled_and_cut = record made { handed = made.handed ++ Some (ask (Commit l)) ∷ [] }

to_unsettled_and_cut : happens registry made (cuts 4 false) ≡ unsettled_and_cut
unfolding happens
to_unsettled_and_cut = simp lookups

settled_at_last : (run registry (reconciles 1 0 ∷ hands 5 ∷ hands 6 ∷ hands 7 ∷ hands 8 ∷ []) unsettled_and_cut).trace ≡ cut_off_uncommitted_trace
unfolding happens
settled_at_last = simp lookups

pub cut_off_uncommitted_is : (run registry cut_off_uncommitted (new_world registry)).trace ≡ cut_off_uncommitted_trace
cut_off_uncommitted_is =
    ap (λ w. (run registry (hands 3 ∷ cuts 4 false ∷ reconciles 1 0 ∷ hands 5 ∷ hands 6 ∷ hands 7 ∷ hands 8 ∷ []) w).trace) to_begun
    ∙ ap (λ w. (run registry (cuts 4 false ∷ reconciles 1 0 ∷ hands 5 ∷ hands 6 ∷ hands 7 ∷ hands 8 ∷ []) w).trace) to_made
    ∙ ap (λ w. (run registry (reconciles 1 0 ∷ hands 5 ∷ hands 6 ∷ hands 7 ∷ hands 8 ∷ []) w).trace) to_unsettled_and_cut ∙ settled_at_last
