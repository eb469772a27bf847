-- Two cells that ask for one route.
use Rattle.std.proofs.Common.{◌≡◌, ℕ, List, [], ◌∷◌, ◌++◌, refl, ◌∙◌, ap}
use Rattle.std.specs.Prelude.{codes}
use Rattle.std.specs.FinMap as map
use Rattle.std.specs.Ordering.{nat_cmp}
use Rattle.claim_types.specs.Order.{key_cmp}
use Rattle.claim_types.specs.declared.lease.Holding.{Holding}
use Rattle.claim_types.specs.declared.operations.Operations.{Operations}
use Rattle.claim_types.specs.declared.record.Kind.{Kind}
use Rattle.claim_types.specs.declared.record.Kind.TheVariants.{Organization, Group}
use Rattle.claim_types.specs.declared.record.Record.{Record}
use Rattle.claim_types.specs.declared.record.Change.{Change}
use Rattle.claim_types.specs.declared.record.Change.TheVariants.{Remove}
use Rattle.claim_types.specs.declared.rule.Attempt.{Attempt}
use Rattle.claim_types.specs.declared.message.Request.TheVariants.{Range as RangeRequest}
use Rattle.claim_map.specs.State.{Tree}
use Rattle.claim_map.specs.Claims.{claims_of, operations_between}
use Rattle.claim_map.specs.Rules.{rule_of}
use Rattle.claim_laws.specs.Nodes.{Agent, with_range, with_attempt}
use Rattle.claim_laws.specs.World.{World}
use Rattle.claim_laws.specs.Events.{Event, asks, requests, hands, happens, run}
use Rattle.claim_laws.specs.Facts.{new_agent, new_world}
use Rattle.claim_laws.specs.Examples.{registry, low_range, high_range, lease_of, path_of, route, destroying, organization, group_in, one_claimed, two_claimed, group_claimed, two_organizations, one_route, one_route_trace, still_leased, still_leased_trace, late_commit, late_commit_trace}
use Rattle.claim_laws.proofs.Lookups.{lookups}
use Rattle.claim_laws.proofs.Afterwards.{ranged, leased, recorded, changed, done, tidied}

abbrev attempt_at : ℕ → Change → Operations → Attempt
attempt_at version change ops = record { change = change; ops = ops; version = version; since = 0 }

abbrev record_of : ℕ → Kind → ℕ → List ℕ → Record
record_of id kind parent name = record { id = id; kind = kind; parent = parent; name = name }

abbrev held_by : ℕ → Kind → ℕ → Holding
held_by cell kind id = record { cell = cell; subject = record { kind = kind; id = id }; origin = record { table = kind; row = id } }

abbrev Holders : Type 0
Holders = map.FinMap key_cmp Holding

-- what the cells keep, and the world as it stands between two changes
abbrev cells : Agent → Agent → map.FinMap nat_cmp Agent
cells first second = map.insert (map.insert (map.insert map.empty 3 new_agent) 2 second) 1 first

abbrev between : Agent → Agent → World → World
between first second w = record w { claims = record w.claims { open_leases = map.empty }; agents = cells first second }

-- each cell has a range, and its organization
abbrev first_attempt : Attempt
first_attempt = attempt_at 0 (organization (codes "one")) one_claimed

abbrev second_attempt : Attempt
second_attempt = attempt_at 0 (organization (codes "two")) two_claimed

abbrev first_agent : Agent
first_agent = done (lease_of 1 1) first_attempt (with_range new_agent low_range)

abbrev second_agent : Agent
second_agent = done (lease_of 2 1) second_attempt (with_range new_agent high_range)

abbrev first_tree : Tree
first_tree = record { records = record_of 1 Organization 0 (codes "one") ∷ []; used = 1; version = 1 }

abbrev second_tree : Tree
second_tree = record { records = record_of 1001 Organization 0 (codes "two") ∷ []; used = 1; version = 1 }

abbrev with_one : Holders
with_one = map.insert map.empty (path_of (codes "one")) (held_by 1 Organization 1)

abbrev with_two : Holders
with_two = map.insert with_one (path_of (codes "two")) (held_by 2 Organization 1001)

abbrev with_ranges : World
with_ranges = ranged high_range new_agent (ranged low_range new_agent (new_world registry))

to_ranges : run registry (requests (RangeRequest 1 1) ∷ hands 0 ∷ hands 1 ∷ requests (RangeRequest 2 1) ∷ hands 2 ∷ hands 3 ∷ []) (new_world registry) ≡ with_ranges
unfolding happens
to_ranges = simp lookups

-- the organization of the first cell
abbrev with_first_leased : World
with_first_leased = leased (lease_of 1 1) first_attempt (with_range new_agent low_range) with_ranges

abbrev with_first_recorded : World
with_first_recorded = recorded (lease_of 1 1) first_attempt (with_attempt (with_range new_agent low_range) (lease_of 1 1) first_attempt) first_tree with_first_leased

abbrev with_first_changed : World
with_first_changed = changed (lease_of 1 1) first_attempt (with_range new_agent low_range) first_tree with_one with_ranges

abbrev with_first : World
with_first = between first_agent (with_range new_agent high_range) with_first_changed

to_with_first_leased : run registry (asks 1 (organization (codes "one")) 0 ∷ hands 4 ∷ []) with_ranges ≡ with_first_leased
unfolding happens rule_of claims_of operations_between
to_with_first_leased = simp lookups

to_with_first_recorded : happens registry with_first_leased (hands 5) ≡ with_first_recorded
unfolding happens rule_of claims_of operations_between
to_with_first_recorded = simp lookups

to_with_first_changed : run registry (hands 6 ∷ hands 7 ∷ []) with_first_recorded ≡ with_first_changed
unfolding happens
to_with_first_changed = simp lookups

to_with_first : run registry (asks 1 (organization (codes "one")) 0 ∷ hands 4 ∷ hands 5 ∷ hands 6 ∷ hands 7 ∷ []) with_ranges ≡ with_first
to_with_first =
    ap (run registry (hands 5 ∷ hands 6 ∷ hands 7 ∷ [])) to_with_first_leased
    ∙ ap (run registry (hands 6 ∷ hands 7 ∷ [])) to_with_first_recorded
    ∙ to_with_first_changed ∙ tidied with_first_changed map.empty (cells first_agent (with_range new_agent high_range)) (simp lookups) (simp lookups)

-- and that of the second
abbrev with_both_leased : World
with_both_leased = leased (lease_of 2 1) second_attempt (with_range new_agent high_range) with_first

abbrev with_both_recorded : World
with_both_recorded = recorded (lease_of 2 1) second_attempt (with_attempt (with_range new_agent high_range) (lease_of 2 1) second_attempt) second_tree with_both_leased

abbrev with_both_changed : World
with_both_changed = changed (lease_of 2 1) second_attempt (with_range new_agent high_range) second_tree with_two with_first

abbrev with_both : World
with_both = between first_agent second_agent with_both_changed

to_with_both_leased : run registry (asks 2 (organization (codes "two")) 0 ∷ hands 8 ∷ []) with_first ≡ with_both_leased
unfolding happens rule_of claims_of operations_between
to_with_both_leased = simp lookups

to_with_both_recorded : happens registry with_both_leased (hands 9) ≡ with_both_recorded
unfolding happens rule_of claims_of operations_between
to_with_both_recorded = simp lookups

to_with_both_changed : run registry (hands 10 ∷ hands 11 ∷ []) with_both_recorded ≡ with_both_changed
unfolding happens
to_with_both_changed = simp lookups

to_with_both : run registry (asks 2 (organization (codes "two")) 0 ∷ hands 8 ∷ hands 9 ∷ hands 10 ∷ hands 11 ∷ []) with_first ≡ with_both
to_with_both =
    ap (run registry (hands 9 ∷ hands 10 ∷ hands 11 ∷ [])) to_with_both_leased
    ∙ ap (run registry (hands 10 ∷ hands 11 ∷ [])) to_with_both_recorded
    ∙ to_with_both_changed ∙ tidied with_both_changed map.empty (cells first_agent second_agent) (simp lookups) (simp lookups)

-- a schedule goes on from where another one ended
run-append : (es fs : List Event) (w : World) → run registry (es ++ fs) w ≡ run registry fs (run registry es w)
run-append [] fs w = refl
run-append (e ∷ es) fs w = run-append es fs (happens registry w e)

to_both : run registry two_organizations (new_world registry) ≡ with_both
to_both =
    ap (run registry (asks 1 (organization (codes "one")) 0 ∷ hands 4 ∷ hands 5 ∷ hands 6 ∷ hands 7 ∷ asks 2 (organization (codes "two")) 0 ∷ hands 8 ∷ hands 9 ∷ hands 10 ∷ hands 11 ∷ [])) to_ranges
    ∙ ap (run registry (asks 2 (organization (codes "two")) 0 ∷ hands 8 ∷ hands 9 ∷ hands 10 ∷ hands 11 ∷ [])) to_with_first ∙ to_with_both

behind : (es : List Event) → (run registry (two_organizations ++ es) (new_world registry)).trace ≡ (run registry es with_both).trace
behind es = ap (λ w. w.trace) (run-append two_organizations es (new_world registry)) ∙ ap (λ w. (run registry es w).trace) to_both

-- the first cell makes its group
abbrev third_attempt : Attempt
third_attempt = attempt_at 1 (group_in 1) (group_claimed 2)

abbrev grouped : Tree
grouped = record { records = record_of 1 Organization 0 (codes "one") ∷ record_of 2 Group 1 (codes "acme") ∷ []; used = 2; version = 2 }

abbrev with_route : Holders
with_route = map.insert with_two (route (codes "acme")) (held_by 1 Group 2)

abbrev third_agent : Agent
third_agent = done (lease_of 1 2) third_attempt first_agent

-- so it goes
abbrev with_group_leased : World
with_group_leased = leased (lease_of 1 2) third_attempt first_agent with_both

abbrev with_group_recorded : World
with_group_recorded = recorded (lease_of 1 2) third_attempt (with_attempt first_agent (lease_of 1 2) third_attempt) grouped with_group_leased

abbrev with_group_changed : World
with_group_changed = changed (lease_of 1 2) third_attempt first_agent grouped with_route with_both

abbrev with_group : World
with_group = between third_agent second_agent with_group_changed

to_with_group_leased : run registry (asks 1 (group_in 1) 0 ∷ hands 12 ∷ []) with_both ≡ with_group_leased
unfolding happens rule_of claims_of operations_between
to_with_group_leased = simp lookups

to_with_group_recorded : happens registry with_group_leased (hands 13) ≡ with_group_recorded
unfolding happens rule_of claims_of operations_between
to_with_group_recorded = simp lookups

to_with_group_changed : run registry (hands 14 ∷ hands 15 ∷ []) with_group_recorded ≡ with_group_changed
unfolding happens
to_with_group_changed = simp lookups

to_with_group : run registry (asks 1 (group_in 1) 0 ∷ hands 12 ∷ hands 13 ∷ hands 14 ∷ hands 15 ∷ []) with_both ≡ with_group
to_with_group =
    ap (run registry (hands 13 ∷ hands 14 ∷ hands 15 ∷ [])) to_with_group_leased
    ∙ ap (run registry (hands 14 ∷ hands 15 ∷ [])) to_with_group_recorded
    ∙ to_with_group_changed ∙ tidied with_group_changed map.empty (cells third_agent second_agent) (simp lookups) (simp lookups)

denied : (run registry (asks 2 (group_in 1001) 0 ∷ hands 16 ∷ hands 17 ∷ []) with_group).trace ≡ one_route_trace
unfolding happens rule_of claims_of operations_between
denied = simp lookups

pub one_route_is : (run registry one_route (new_world registry)).trace ≡ one_route_trace
one_route_is =
    behind (asks 1 (group_in 1) 0 ∷ hands 12 ∷ hands 13 ∷ hands 14 ∷ hands 15 ∷ asks 2 (group_in 1001) 0 ∷ hands 16 ∷ hands 17 ∷ [])
    ∙ ap (λ w. (run registry (asks 2 (group_in 1001) 0 ∷ hands 16 ∷ hands 17 ∷ []) w).trace) to_with_group ∙ denied

-- its commit is lost
to_uncommitted : run registry (asks 1 (group_in 1) 0 ∷ hands 12 ∷ hands 13 ∷ []) with_both ≡ with_group_recorded
to_uncommitted = ap (λ w. happens registry w (hands 13)) to_with_group_leased ∙ to_with_group_recorded

denied_for_a_lease : (run registry (asks 2 (group_in 1001) 0 ∷ hands 15 ∷ hands 16 ∷ []) with_group_recorded).trace ≡ still_leased_trace
unfolding happens rule_of claims_of operations_between
denied_for_a_lease = simp lookups

pub still_leased_is : (run registry still_leased (new_world registry)).trace ≡ still_leased_trace
still_leased_is =
    behind (asks 1 (group_in 1) 0 ∷ hands 12 ∷ hands 13 ∷ asks 2 (group_in 1001) 0 ∷ hands 15 ∷ hands 16 ∷ [])
    ∙ ap (λ w. (run registry (asks 2 (group_in 1001) 0 ∷ hands 15 ∷ hands 16 ∷ []) w).trace) to_uncommitted ∙ denied_for_a_lease

-- it removes its group, and the second cell makes its own
abbrev fourth_attempt : Attempt
fourth_attempt = attempt_at 2 (Remove 2) (destroying (route (codes "acme")))

abbrev ungrouped : Tree
ungrouped = record { records = record_of 1 Organization 0 (codes "one") ∷ []; used = 2; version = 3 }

abbrev without_route : Holders
without_route = map.remove with_route (route (codes "acme"))

abbrev fourth_agent : Agent
fourth_agent = done (lease_of 1 3) fourth_attempt third_agent

-- so it goes
abbrev without_group_leased : World
without_group_leased = leased (lease_of 1 3) fourth_attempt third_agent with_group

abbrev without_group_recorded : World
without_group_recorded = recorded (lease_of 1 3) fourth_attempt (with_attempt third_agent (lease_of 1 3) fourth_attempt) ungrouped without_group_leased

abbrev without_group_changed : World
without_group_changed = changed (lease_of 1 3) fourth_attempt third_agent ungrouped without_route with_group

abbrev without_group : World
without_group = between fourth_agent second_agent without_group_changed

to_without_group_leased : run registry (asks 1 (Remove 2) 0 ∷ hands 16 ∷ []) with_group ≡ without_group_leased
unfolding happens rule_of claims_of operations_between
to_without_group_leased = simp lookups

to_without_group_recorded : happens registry without_group_leased (hands 17) ≡ without_group_recorded
unfolding happens rule_of claims_of operations_between
to_without_group_recorded = simp lookups

to_without_group_changed : run registry (hands 18 ∷ hands 19 ∷ []) without_group_recorded ≡ without_group_changed
unfolding happens
to_without_group_changed = simp lookups

to_without_group : run registry (asks 1 (Remove 2) 0 ∷ hands 16 ∷ hands 17 ∷ hands 18 ∷ hands 19 ∷ []) with_group ≡ without_group
to_without_group =
    ap (run registry (hands 17 ∷ hands 18 ∷ hands 19 ∷ [])) to_without_group_leased
    ∙ ap (run registry (hands 18 ∷ hands 19 ∷ [])) to_without_group_recorded
    ∙ to_without_group_changed ∙ tidied without_group_changed map.empty (cells fourth_agent second_agent) (simp lookups) (simp lookups)

abbrev fifth_attempt : Attempt
fifth_attempt = attempt_at 1 (group_in 1001) (group_claimed 1002)

abbrev grouped_too : Tree
grouped_too = record { records = record_of 1001 Organization 0 (codes "two") ∷ record_of 1002 Group 1001 (codes "acme") ∷ []; used = 2; version = 2 }

abbrev with_other_route : Holders
with_other_route = map.insert without_route (route (codes "acme")) (held_by 2 Group 1002)

abbrev fifth_agent : Agent
fifth_agent = done (lease_of 2 2) fifth_attempt second_agent

-- so it goes
abbrev passed_on_leased : World
passed_on_leased = leased (lease_of 2 2) fifth_attempt second_agent without_group

abbrev passed_on_recorded : World
passed_on_recorded = recorded (lease_of 2 2) fifth_attempt (with_attempt second_agent (lease_of 2 2) fifth_attempt) grouped_too passed_on_leased

abbrev passed_on_changed : World
passed_on_changed = changed (lease_of 2 2) fifth_attempt second_agent grouped_too with_other_route without_group

abbrev passed_on : World
passed_on = between fourth_agent fifth_agent passed_on_changed

to_passed_on_leased : run registry (asks 2 (group_in 1001) 0 ∷ hands 20 ∷ []) without_group ≡ passed_on_leased
unfolding happens rule_of claims_of operations_between
to_passed_on_leased = simp lookups

to_passed_on_recorded : happens registry passed_on_leased (hands 21) ≡ passed_on_recorded
unfolding happens rule_of claims_of operations_between
to_passed_on_recorded = simp lookups

to_passed_on_changed : run registry (hands 22 ∷ hands 23 ∷ []) passed_on_recorded ≡ passed_on_changed
unfolding happens
to_passed_on_changed = simp lookups

to_passed_on : run registry (asks 2 (group_in 1001) 0 ∷ hands 20 ∷ hands 21 ∷ hands 22 ∷ hands 23 ∷ []) without_group ≡ passed_on
to_passed_on =
    ap (run registry (hands 21 ∷ hands 22 ∷ hands 23 ∷ [])) to_passed_on_leased
    ∙ ap (run registry (hands 22 ∷ hands 23 ∷ [])) to_passed_on_recorded
    ∙ to_passed_on_changed ∙ tidied passed_on_changed map.empty (cells fourth_agent fifth_agent) (simp lookups) (simp lookups)

too_late : (run registry (hands 14 ∷ hands 24 ∷ hands 14 ∷ hands 25 ∷ hands 14 ∷ hands 26 ∷ []) passed_on).trace ≡ late_commit_trace
unfolding happens
too_late = simp lookups

pub late_commit_is : (run registry late_commit (new_world registry)).trace ≡ late_commit_trace
late_commit_is =
    behind (asks 1 (group_in 1) 0 ∷ hands 12 ∷ hands 13 ∷ hands 14 ∷ hands 15 ∷ (removal ++ (group_too ++ commits)))
    ∙ ap (λ w. (run registry (removal ++ (group_too ++ commits)) w).trace) to_with_group
    ∙ ap (λ w. (run registry (group_too ++ commits) w).trace) to_without_group
    ∙ ap (λ w. (run registry commits w).trace) to_passed_on ∙ too_late
  where
    removal : List Event
    removal = asks 1 (Remove 2) 0 ∷ hands 16 ∷ hands 17 ∷ hands 18 ∷ hands 19 ∷ []

    group_too : List Event
    group_too = asks 2 (group_in 1001) 0 ∷ hands 20 ∷ hands 21 ∷ hands 22 ∷ hands 23 ∷ []

    commits : List Event
    commits = hands 14 ∷ hands 24 ∷ hands 14 ∷ hands 25 ∷ hands 14 ∷ hands 26 ∷ []
