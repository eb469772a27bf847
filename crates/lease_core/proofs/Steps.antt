-- What the parts know of each other is kept by each step.
use Rattle.std.proofs.Common.{◌≡◌, ◌≢◌, ◌⊎◌, inl, inr, ℕ, ◌+◌, ◌-◌, ◌≤◌, Bool, true, false, ◌||◌, cond, List, [], ◌∷◌, Option, Some, None, is_some, unwrap_or, nat_eq, refl, sym, ◌∙◌, ap, subst, arith}
use Rattle.std.specs.Prelude.{IsSome}
use Rattle.std.specs.List.{Contains, AllPairs}
use Rattle.std.specs.Ordering.{nat_cmp, eq_by_cmp}
use Rattle.std.specs.FinMap as fin
use Rattle.std.specs.FinMap.{FinMap, nat_cmp-IsAntisymmetric, get-empty, get-remove, same_map}
use Rattle.std.specs.FinSet as set
use Rattle.std.specs.FinSet.{FinSet}
use Rattle.std.proofs.lemmas.Cmp.{nat_cmp_total}
use Rattle.std.proofs.lemmas.Bool.Decides.{Decides-eqb}
use Rattle.cells_base.proofs.Truth.{or_first, neither, not_true}
use Rattle.cells_base.proofs.Maps.{inserted, removed, insert_same, insert_other, remove_other, same_or_other}
use Rattle.cells_base.proofs.Members.{here, later, in_map}
use Rattle.claim_types.specs.Order.{key_cmp, key_eq, lease_cmp}
use Rattle.claim_types.specs.Operations.{keys_of}
use Rattle.claim_types.specs.declared.key.ClaimKey.{ClaimKey}
use Rattle.claim_types.specs.declared.lease.LeaseId.{LeaseId}
use Rattle.claim_types.specs.declared.lease.Holding.{Holding}
use Rattle.claim_types.specs.declared.lease.How.{How}
use Rattle.claim_types.specs.declared.operations.Create.{Create}
use Rattle.claim_types.specs.declared.operations.Operations.{Operations}
use Rattle.claim_types.proofs.Ordered.{keys_total, keys_exact, leases_total, leases_exact}
use Rattle.claim_map.specs.Verdict.{names, open_count}
use Rattle.claim_map.specs.Step.{with_claims, without_keys, holding_of}
use Rattle.lease_core.specs.Rows.{row_cmp, row_of, row_of_create}
use Rattle.lease_core.specs.Kept.{AreNamed, ArePlaced, AreCounted, HavePlaces, AreApart, created_keys, is_among, KeepsRows, KeepsHeld, Adds, HasCreates}
use Rattle.lease_core.proofs.Noted.{same_key, among_append}
use Rattle.lease_core.proofs.Naming.{stands_once, contains_among, among_contains}
use Rattle.lease_core.proofs.BaseCounts.{one_more, one_less}

pub same_value : {A : Type 0} (x y : A) → Some x ≡ Some y → x ≡ y
same_value x y e = cc

pub some_there : {A : Type 0} (o : Option A) (x : A) → o ≡ Some x → IsSome o
some_there o x is = ap is_some is

pub nothing_open : (open_leases : FinMap lease_cmp Operations) → open_leases ≡ fin.empty → (lease : LeaseId) (ops : Operations) → fin.get open_leases lease ≡ Some ops → ⊥
nothing_open open_leases none lease ops is = let both : None ≡ Some ops = sym (get-empty lease_cmp lease) ∙ ap (λ m. fin.get m lease) (sym none) ∙ is in cc

-- a key that is not there is no less
pub remove_none : {X : Type 0} (m : FinMap lease_cmp X) (k : LeaseId) → fin.get m k ≡ None → fin.remove m k ≡ m
remove_none {X} m k none = same_map leases_total leases_exact _ _ (λ q. at q (same_or_other leases_total leases_exact q k))
  where
    flat : (b : Bool) (o : Option X) → o ≡ None → cond b None o ≡ o
    flat true o is = sym is
    flat false o is = refl

    at : (q : LeaseId) → (q ≡ k) ⊎ (q ≢ k) → fin.get (fin.remove m k) q ≡ fin.get m q
    at q (inl e) = get-remove leases_total m k q ∙ flat (eq_by_cmp lease_cmp q k) (fin.get m q) (ap (fin.get m) e ∙ none)
    at q (inr apart) = remove_other leases_total leases_exact m k q apart

-- settled places
pub room_more : (settled : FinMap lease_cmp (Option How)) (open_leases : FinMap lease_cmp Operations) (id : LeaseId) (how : Option How) → HavePlaces settled open_leases → HavePlaces (fin.insert settled id how) open_leases
room_more settled open_leases id how room l ops is = elim (same_or_other leases_total leases_exact l id) [
  | inl e ↦ some_there _ how (ap (fin.get (fin.insert settled id how)) e ∙ insert_same leases_total leases_exact settled id how)
  | inr apart ↦ subst IsSome (sym (insert_other leases_total leases_exact settled id how l apart)) (room l ops is)
]

-- what was true of each open lease is so of those that stay open
module _ (open_leases : FinMap lease_cmp Operations) (id : LeaseId) where
  pub room_less : (settled : FinMap lease_cmp (Option How)) → HavePlaces settled open_leases → HavePlaces settled (fin.remove open_leases id)
  room_less settled room l ops is = room l ops (removed leases_total leases_exact open_leases id l ops is).1

  pub apart_less : AreApart open_leases → AreApart (fin.remove open_leases id)
  apart_less apart l ops key is = apart l ops key (removed leases_total leases_exact open_leases id l ops is).1

  pub apart_more : (ops : Operations) → AreApart open_leases → ((key : ClaimKey) → is_among (created_keys ops.creates) key ≡ true → is_among ops.destroys key ≡ false) → AreApart (fin.insert open_leases id ops)
  apart_more ops apart mine l o key is = elim (inserted leases_total leases_exact open_leases id ops l o is) [
    | inl new ↦ subst (λ (x : Operations). is_among (created_keys x.creates) key ≡ true → is_among x.destroys key ≡ false) new.1 (mine key)
    | inr old ↦ apart l o key old.1
  ]

  pub room_opened : (settled : FinMap lease_cmp (Option How)) (ops : Operations) → HavePlaces settled open_leases → HavePlaces (fin.insert settled id None) (fin.insert open_leases id ops)
  room_opened settled ops room l o is = elim (inserted leases_total leases_exact open_leases id ops l o is) [
    | inl new ↦ some_there _ None (ap (fin.get (fin.insert settled id None)) new.0 ∙ insert_same leases_total leases_exact settled id None)
    | inr old ↦ room_more settled open_leases id None room l o old.1
  ]

  pub placed_opened : (rows rows' : FinSet row_cmp) (holder : FinMap key_cmp Holding) (ops : Operations) → ArePlaced rows holder open_leases → Adds rows rows' → HasCreates rows' id.cell ops.creates → ArePlaced rows' holder (fin.insert open_leases id ops)
  placed_opened rows rows' holder ops are adds mine = record {
    held = λ k h is. adds (row_of k h) (are.held k h is);
    created = λ l o is. elim (inserted leases_total leases_exact open_leases id ops l o is) [
      | inl new ↦ subst (λ (x : Operations). HasCreates rows' l.cell x.creates) new.1 (subst (λ (x : LeaseId). HasCreates rows' x.cell ops.creates) (sym new.0) mine)
      | inr old ↦ λ c there. adds (row_of_create l.cell c) (are.created l o old.1 c there)
    ];
  }

  -- how many are open
  module _ (numbers : FinMap nat_cmp ℕ) (are : AreCounted numbers open_leases) where
    abbrev pub number : ℕ
    number = unwrap_or (fin.get numbers id.cell) 0

    -- a number stands where it stood
    rewritten : (cell : ℕ) → unwrap_or (fin.get (fin.insert numbers id.cell number) cell) 0 ≡ unwrap_or (fin.get numbers cell) 0
    rewritten cell = elim (same_or_other nat_cmp_total nat_cmp-IsAntisymmetric cell id.cell) [
      | inl e ↦ ap (λ o. unwrap_or o 0) (ap (fin.get (fin.insert numbers id.cell number)) e ∙ insert_same nat_cmp_total nat_cmp-IsAntisymmetric numbers id.cell number) ∙ ap (λ c. unwrap_or (fin.get numbers c) 0) (sym e)
      | inr apart ↦ ap (λ o. unwrap_or o 0) (insert_other nat_cmp_total nat_cmp-IsAntisymmetric numbers id.cell number cell apart)
    ]

    has_number : (n cell : ℕ) → (cell ≡ id.cell) ⊎ IsSome (fin.get numbers cell) → IsSome (fin.get (fin.insert numbers id.cell n) cell)
    has_number n cell h = elim (same_or_other nat_cmp_total nat_cmp-IsAntisymmetric cell id.cell) [
      | inl e ↦ some_there _ n (ap (fin.get (fin.insert numbers id.cell n)) e ∙ insert_same nat_cmp_total nat_cmp-IsAntisymmetric numbers id.cell n)
      | inr apart ↦ elim h [ inl e ↦ absurd (apart e) | inr there ↦ subst IsSome (sym (insert_other nat_cmp_total nat_cmp-IsAntisymmetric numbers id.cell n cell apart)) there ]
    ]

    pub noted : AreCounted (fin.insert numbers id.cell number) open_leases
    noted = record {
      number = λ cell. rewritten cell ∙ are.number cell;
      there = λ l ops is. has_number number l.cell (inr (are.there l ops is));
    }

    pub is_noted : IsSome (fin.get (fin.insert numbers id.cell number) id.cell)
    is_noted = has_number number id.cell (inl refl)

    same_cell : (cell : ℕ) → cell ≡ id.cell → nat_eq id.cell cell ≡ true
    same_cell cell e = (Decides-eqb id.cell cell).1 (sym e)

    other_cell : (cell : ℕ) → cell ≢ id.cell → nat_eq id.cell cell ≡ false
    other_cell cell apart = not_true (nat_eq id.cell cell) (λ h. apart (sym ((Decides-eqb id.cell cell).0 h)))

    pub counted_opened : (ops : Operations) → fin.get open_leases id ≡ None → AreCounted (fin.insert (fin.insert numbers id.cell number) id.cell (number + 1)) (fin.insert open_leases id ops)
    counted_opened ops closed = record {
      number = λ cell. elim (same_or_other nat_cmp_total nat_cmp-IsAntisymmetric cell id.cell) [
        | inl e ↦ ap (λ o. unwrap_or o 0) (ap (fin.get (fin.insert numbers2 id.cell (number + 1))) e ∙ insert_same nat_cmp_total nat_cmp-IsAntisymmetric numbers2 id.cell (number + 1))
            ∙ same (open_count open_leases cell) (ap (λ c. unwrap_or (fin.get numbers c) 0) (sym e) ∙ are.number cell)
            ∙ sym (ap (λ b. cond b 1 0 + open_count open_leases cell) (same_cell cell e)) ∙ sym (more cell)
        | inr apart ↦ ap (λ o. unwrap_or o 0) (insert_other nat_cmp_total nat_cmp-IsAntisymmetric numbers2 id.cell (number + 1) cell apart) ∙ rewritten cell ∙ are.number cell
            ∙ zero_more (open_count open_leases cell) ∙ sym (ap (λ b. cond b 1 0 + open_count open_leases cell) (other_cell cell apart)) ∙ sym (more cell)
      ];
      there = λ l o is. elim (same_or_other nat_cmp_total nat_cmp-IsAntisymmetric l.cell id.cell) [
        | inl e ↦ some_there _ (number + 1) (ap (fin.get (fin.insert numbers2 id.cell (number + 1))) e ∙ insert_same nat_cmp_total nat_cmp-IsAntisymmetric numbers2 id.cell (number + 1))
        | inr apart ↦ subst IsSome (sym (insert_other nat_cmp_total nat_cmp-IsAntisymmetric numbers2 id.cell (number + 1) l.cell apart))
            (elim (inserted leases_total leases_exact open_leases id ops l o is) [
              | inl new ↦ absurd (apart (ap (λ (x : LeaseId). x.cell) new.0))
              | inr old ↦ has_number number l.cell (inr (are.there l o old.1))
            ])
      ];
    }
      where
        numbers2 : FinMap nat_cmp ℕ
        numbers2 = fin.insert numbers id.cell number

        more : (cell : ℕ) → open_count (fin.insert open_leases id ops) cell ≡ cond (nat_eq id.cell cell) 1 0 + open_count open_leases cell
        more cell = one_more leases_total leases_exact (λ (l : LeaseId). nat_eq l.cell cell) open_leases id ops closed

        same : (n : ℕ) → number ≡ n → number + 1 ≡ 1 + n
        same n e = omega (arith, e)

        zero_more : (n : ℕ) → n ≡ 0 + n
        zero_more n = omega arith

    module _ (ops : Operations) (open_with : fin.get open_leases id ≡ Some ops) where
      less : (cell : ℕ) → open_count open_leases cell ≡ cond (nat_eq id.cell cell) 1 0 + open_count (fin.remove open_leases id) cell
      less cell = one_less leases_total leases_exact open_leases id ops (λ (l : LeaseId). nat_eq l.cell cell) open_with

      pub has_one : 1 ≤ number
      has_one = let n = are.number id.cell in let l = less id.cell ∙ ap (λ b. cond b 1 0 + open_count (fin.remove open_leases id) id.cell) (same_cell id.cell refl) in omega (arith, n, l)

      pub is_there : IsSome (fin.get numbers id.cell)
      is_there = are.there id ops open_with

      pub counted_closed : AreCounted (fin.insert numbers id.cell (number - 1)) (fin.remove open_leases id)
      counted_closed = record {
        number = λ cell. elim (same_or_other nat_cmp_total nat_cmp-IsAntisymmetric cell id.cell) [
          | inl e ↦ ap (λ o. unwrap_or o 0) (ap (fin.get (fin.insert numbers id.cell (number - 1))) e ∙ insert_same nat_cmp_total nat_cmp-IsAntisymmetric numbers id.cell (number - 1))
              ∙ one_off (open_count (fin.remove open_leases id) cell) (ap (λ c. unwrap_or (fin.get numbers c) 0) (sym e) ∙ are.number cell ∙ less cell ∙ ap (λ b. cond b 1 0 + open_count (fin.remove open_leases id) cell) (same_cell cell e))
          | inr apart ↦ ap (λ o. unwrap_or o 0) (insert_other nat_cmp_total nat_cmp-IsAntisymmetric numbers id.cell (number - 1) cell apart) ∙ are.number cell ∙ less cell
              ∙ ap (λ b. cond b 1 0 + open_count (fin.remove open_leases id) cell) (other_cell cell apart) ∙ none_off (open_count (fin.remove open_leases id) cell)
        ];
        there = λ l o is. has_number (number - 1) l.cell (inr (are.there l o (removed leases_total leases_exact open_leases id l o is).1));
      }
        where
          one_off : (n : ℕ) → number ≡ 1 + n → number - 1 ≡ n
          one_off n e = omega (arith, e)

          none_off : (n : ℕ) → 0 + n ≡ n
          none_off n = omega arith

-- who holds a key once keys are taken away
pub held_without : (keys : List ClaimKey) (holder : FinMap key_cmp Holding) (k : ClaimKey) (h : Holding) → fin.get (without_keys keys holder) k ≡ Some h → (is_among keys k ≡ false) × (fin.get holder k ≡ Some h)
held_without [] holder k h is = (refl, is)
held_without (x ∷ xs) holder k h is =
    let rest = held_without xs (fin.remove holder x) k h is in
    let one = removed keys_total keys_exact holder x k h rest.1 in
    (not_true (is_among (x ∷ xs) k) (λ among. neither_way x xs k one.0 rest.0 among), one.1)
  where
    neither_way : (x : ClaimKey) (xs : List ClaimKey) (k : ClaimKey) → k ≢ x → is_among xs k ≡ false → is_among (x ∷ xs) k ≡ true → ⊥
    neither_way x xs k apart later among = at (key_eq x k) refl
      where
        at : (b : Bool) → key_eq x k ≡ b → ⊥
        at true same = apart (sym (same_key x k same))
        at false other = let both : true ≡ false = sym among ∙ ap (λ b. b || is_among xs k) other ∙ later in cc

-- who holds a key once creates are claimed: their cell, or who held it
pub held_with : (cell : ℕ) (creates : List Create) (holder : FinMap key_cmp Holding) (k : ClaimKey) (h : Holding) → fin.get (with_claims cell creates holder) k ≡ Some h
    → ((c : Create) × Contains creates c × (c.key ≡ k) × (holding_of cell c ≡ h)) ⊎ (fin.get holder k ≡ Some h)
held_with cell [] holder k h is = inr is
held_with cell (x ∷ xs) holder k h is = elim (held_with cell xs (fin.insert holder x.key (holding_of cell x)) k h is) [
  | inl found ↦ inl (found.0, later x xs found.0 found.1, found.2, found.3)
  | inr there ↦ elim (inserted keys_total keys_exact holder x.key (holding_of cell x) k h there) [
    | inl new ↦ inl (x, here x xs, sym new.0, new.1)
    | inr old ↦ inr old.1
  ]
]

-- the places once a lease is applied
module _ (rows rows' : FinSet row_cmp) (holder : FinMap key_cmp Holding) (open_leases : FinMap lease_cmp Operations) (named : ClaimKey → Option LeaseId) (id : LeaseId) (ops : Operations)
    (open_with : fin.get open_leases id ≡ Some ops) (names_are : AreNamed named open_leases) (are : ArePlaced rows holder open_leases) where
  -- a key of another open lease is none of this one's
  others_key : (l : LeaseId) (o : Operations) (k : ClaimKey) → fin.get (fin.remove open_leases id) l ≡ Some o → names o k ≡ true → names ops k ≡ false
  others_key l o k is theirs =
      let old = removed leases_total leases_exact open_leases id l o is in
      not_true (names ops k) (λ mine. old.0 (same_value l id (sym (names_are.complete l o k old.1 theirs) ∙ names_are.complete id ops k open_with mine)))

  created_there : (o : Operations) (c : Create) → Contains o.creates c → names o c.key ≡ true
  created_there o c there = among_append (created_keys o.creates) o.destroys c.key ∙ or_first (is_among (created_keys o.creates) c.key) (is_among o.destroys c.key) (contains_among (created_keys o.creates) c.key (in_map (λ (x : Create). x.key) o.creates c there))

  not_mine : (k : ClaimKey) → names ops k ≡ false → (is_among (created_keys ops.creates) k ≡ false) × (is_among ops.destroys k ≡ false)
  not_mine k h = neither (is_among (created_keys ops.creates) k) (is_among ops.destroys k) (sym (among_append (created_keys ops.creates) ops.destroys k) ∙ h)

  pub placed_committed : AreApart open_leases → KeepsRows ops.destroys rows rows' → ArePlaced rows' (with_claims id.cell ops.creates (without_keys ops.destroys holder)) (fin.remove open_leases id)
  placed_committed apart keeps = record {
    held = λ k h is. elim (held_with id.cell ops.creates (without_keys ops.destroys holder) k h is) [
      | inl c ↦
          let among : is_among (created_keys ops.creates) c.0.key ≡ true = contains_among (created_keys ops.creates) c.0.key (in_map (λ (x : Create). x.key) ops.creates c.0 c.1) in
          subst (λ (x : Holding). set.contains rows' (row_of k x) ≡ true) c.3 (subst (λ x. set.contains rows' (row_of x (holding_of id.cell c.0)) ≡ true) c.2
          (keeps (row_of_create id.cell c.0) (apart id ops c.0.key open_with among) (are.created id ops open_with c.0 c.1)))
      | inr there ↦ let old = held_without ops.destroys holder k h there in keeps (row_of k h) old.0 (are.held k h old.1)
    ];
    created = λ l o is c there. keeps (row_of_create l.cell c) (not_mine c.key (others_key l o c.key is (created_there o c there))).1
        (are.created l o (removed leases_total leases_exact open_leases id l o is).1 c there);
  }

  pub placed_rolled_back : KeepsHeld holder rows rows' → KeepsRows (created_keys ops.creates) rows rows' → ArePlaced rows' holder (fin.remove open_leases id)
  placed_rolled_back held keeps = record {
    held = λ k h is. held k h is (are.held k h is);
    created = λ l o is c there. keeps (row_of_create l.cell c) (not_mine c.key (others_key l o c.key is (created_there o c there))).0
        (are.created l o (removed leases_total leases_exact open_leases id l o is).1 c there);
  }

-- the places where a lease was not opened after all
module _ (rows rows' rows2 : FinSet row_cmp) (holder : FinMap key_cmp Holding) (open_leases : FinMap lease_cmp Operations) (ops : Operations) (are : ArePlaced rows holder open_leases) where
  pub placed_again : Adds rows rows' → KeepsHeld holder rows' rows2 → KeepsRows (created_keys ops.creates) rows' rows2
      → ((key : ClaimKey) → Contains (keys_of ops) key → (other : LeaseId) (theirs : Operations) → fin.get open_leases other ≡ Some theirs → Contains (keys_of theirs) key → ⊥) → ArePlaced rows2 holder open_leases
  placed_again adds held keeps unleased = record {
    held = λ k h is. held k h is (adds (row_of k h) (are.held k h is));
    created = λ l o is c there. keeps (row_of_create l.cell c)
        (not_true (is_among (created_keys ops.creates) c.key) (λ mine. unleased c.key
        (among_contains (keys_of ops) c.key (among_append (created_keys ops.creates) ops.destroys c.key ∙ or_first (is_among (created_keys ops.creates) c.key) (is_among ops.destroys c.key) mine)) l o is
        (among_contains (keys_of o) c.key (among_append (created_keys o.creates) o.destroys c.key ∙ or_first (is_among (created_keys o.creates) c.key) (is_among o.destroys c.key) (contains_among (created_keys o.creates) c.key (in_map (λ (x : Create). x.key) o.creates c there))))))
        (adds (row_of_create l.cell c) (are.created l o is c there));
  }

-- a fresh lease destroys no key that it creates
pub fresh_apart : (ops : Operations) → AllPairs (λ a b. a ≢ b) (keys_of ops) → (key : ClaimKey) → is_among (created_keys ops.creates) key ≡ true → is_among ops.destroys key ≡ false
fresh_apart ops distinct key created = stands_once (created_keys ops.creates) ops.destroys distinct key created
