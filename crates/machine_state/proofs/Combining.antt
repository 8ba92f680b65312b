-- One lemma for each combinator of the steps, over any relation of two outcomes in which equal faults are related: of
-- one instruction in two memories. A law of one outcome is a relation that ignores the other.
use Rattle.std.proofs.Common.{◌≡◌, ◌≤◌, ◌%◌, ℕ, ℤ, pos, negsuc, Bool, true, false, ◌&&◌, cond, Option, Some, None, refl}
use Rattle.std.proofs.Common.{subst, ltb, int_le}
use Rattle.std.proofs.lemmas.Bool.{leb-true, and_parts}
use Rattle.std.specs.Prelude.{nat_abs, ◌==◌}
use Rattle.module_format.specs.declared.rows.Direction.{Direction}
use Rattle.machine_state.specs.declared.fault.FaultKind.{FaultKind}
use Rattle.machine_state.specs.declared.fault.FaultKind.TheVariants.{AlternationOrder, JoinOrder, Undefined, NotOwn}
use Rattle.machine_state.specs.declared.fault.FaultKind.TheVariants.{Unaligned, CountRange, ErrorFlag, OutsideCode}
use Rattle.machine_state.specs.declared.fault.FaultKind.TheVariants.{EndNotHeld}
use Rattle.machine_state.specs.declared.process.Mode.{Mode}
use Rattle.machine_state.specs.declared.process.Mode.TheVariants.{Plain, Enabling, Disabling, Starting}
use Rattle.machine_state.specs.Memory.{Memory, place_of, word_at, with_word, byte_at, with_byte}
use Rattle.machine_state.specs.Holding.{Holding, may_write, may_read, may_write_word, may_read_word, has_end}
use Rattle.machine_state.specs.LocalStep as step
use Rattle.machine_state.specs.Site.{Site, Local, Outcome, goes, jumps, lands, fails}

-- a count between two bounds
pub counted_between : (least most : ℕ) (v : ℤ) → (int_le (pos least) v && int_le v (pos most)) ≡ true
    → (least ≤ nat_abs v) × (nat_abs v ≤ most)
counted_between least most (pos n) h =
    let both = and_parts _ _ h in (leb-true least n both.0, leb-true n most both.1)
counted_between least most (negsuc n) h = absurd (cc)

module _ (R : Outcome → Outcome → Type 0) (at_fault : (kind : FaultKind) → R (fails kind) (fails kind)) where
  pub by_test : (b : Bool) (x x' y y' : Outcome) → (b ≡ true → R x x') → (b ≡ false → R y y')
      → R (cond b x y) (cond b x' y')
  by_test true x x' y y' p q = p refl
  by_test false x x' y y' p q = q refl

  pub passes : (b : Bool) (kind : FaultKind) (x x' : Outcome) → (b ≡ true → R x x')
      → R (cond b x (fails kind)) (cond b x' (fails kind))
  passes b kind x x' p = by_test b x x' (fails kind) (fails kind) p (λ e. at_fault kind)

  pub outside_alternation : (mode : Mode) (o o' : Outcome) → R o o'
      → R (step.outside_alternation mode o) (step.outside_alternation mode o')
  unfolding step.outside_alternation
  outside_alternation Plain o o' h = h
  outside_alternation (Enabling is_ready) o o' h = at_fault AlternationOrder
  outside_alternation (Disabling selection) o o' h = at_fault AlternationOrder
  outside_alternation Starting o o' h = h

  pub outside_starts : (mode : Mode) (o o' : Outcome) → R o o'
      → R (step.outside_starts mode o) (step.outside_starts mode o')
  unfolding step.outside_starts
  outside_starts Plain o o' h = h
  outside_starts (Enabling is_ready) o o' h = h
  outside_starts (Disabling selection) o o' h = h
  outside_starts Starting o o' h = at_fault JoinOrder

  pub alone : (mode : Mode) (o o' : Outcome) → R o o' → R (step.alone mode o) (step.alone mode o')
  alone mode o o' h = outside_alternation mode _ _ (outside_starts mode o o' h)

  pub while_enabling : (mode : Mode) (o o' : Outcome) → R o o'
      → R (step.while_enabling mode o) (step.while_enabling mode o')
  unfolding step.while_enabling
  while_enabling Plain o o' h = at_fault AlternationOrder
  while_enabling (Enabling is_ready) o o' h = h
  while_enabling (Disabling selection) o o' h = at_fault AlternationOrder
  while_enabling Starting o o' h = at_fault JoinOrder

  pub while_disabling : (mode : Mode) (k k' : Option ℤ → Outcome) → ((v : Option ℤ) → R (k v) (k' v))
      → R (step.while_disabling mode k) (step.while_disabling mode k')
  unfolding step.while_disabling
  while_disabling Plain k k' h = at_fault AlternationOrder
  while_disabling (Enabling is_ready) k k' h = at_fault AlternationOrder
  while_disabling (Disabling selection) k k' h = h selection
  while_disabling Starting k k' h = at_fault JoinOrder

  pub uses : (v : Option ℤ) (k k' : ℤ → Outcome) → ((x : ℤ) → R (k x) (k' x)) → R (step.uses v k) (step.uses v k')
  unfolding step.uses
  uses None k k' h = at_fault Undefined
  uses (Some x) k k' h = h x

  pub holds : (b : Bool) (kind : FaultKind) (o o' : Outcome) → (b ≡ true → R o o')
      → R (step.holds b kind o) (step.holds b kind o')
  unfolding step.holds
  holds true kind o o' h = h refl
  holds false kind o o' h = at_fault kind

  pub aligned : (v : ℤ) (k k' : ℕ → Outcome) → ((a : ℕ) → (a % 4 == 0) ≡ true → R (k a) (k' a))
      → R (step.aligned v k) (step.aligned v k')
  unfolding step.aligned
  aligned v k k' h = passes (step.address v % 4 == 0) Unaligned _ _ (h (step.address v))

  pub counts : (least most : ℕ) (v : ℤ) (k k' : ℕ → Outcome)
      → ((n : ℕ) → least ≤ n → n ≤ most → R (k n) (k' n)) → R (step.counts least most v k) (step.counts least most v k')
  unfolding step.counts
  counts least most v k k' h = passes (int_le (pos least) v && int_le v (pos most)) CountRange _ _
      (λ e. let bounds = counted_between least most v e in h (nat_abs v) bounds.0 bounds.1)

  pub computes : (v : Option ℤ) (k k' : ℤ → Outcome) → ((x : ℤ) → R (k x) (k' x))
      → R (step.computes v k) (step.computes v k')
  unfolding step.computes
  computes None k k' h = at_fault ErrorFlag
  computes (Some x) k k' h = h x

  module _ (s : Site) where
    pub channel : (v : ℤ) (direction : Direction) (k k' : ℕ → Outcome)
        → ((a : ℕ) → has_end s.holding (record { address = a; direction = direction }) ≡ true → R (k a) (k' a))
        → R (step.channel s v direction k) (step.channel s v direction k')
    unfolding step.channel
    channel v direction k k' h = aligned v _ _ (λ a e. holds _ EndNotHeld _ _ (h a))

    -- a step that reads something, of what may be read of it and what it reads
    abbrev ReadsAlike : {A : Type 0} → (Site → ℕ → Local → (A → Outcome) → Outcome) → (Holding → ℕ → Bool)
        → (Memory → ℕ → A) → Type 0
    ReadsAlike {A} reading may at = (address : ℕ) (l l' : Local) (k k' : A → Outcome)
        → (may s.holding (place_of address) ≡ true
        → at l.memory (place_of address) ≡ at l'.memory (place_of address))
        → ((v : A) → R (k v) (k' v)) → R (reading s address l k) (reading s address l' k')

    read_passes : {A : Type 0} (b : Bool) (x y : A) (k k' : A → Outcome) → (b ≡ true → x ≡ y)
        → ((v : A) → R (k v) (k' v)) → R (cond b (k x) (fails NotOwn)) (cond b (k' y) (fails NotOwn))
    read_passes b x y k k' same h = passes b NotOwn _ _ (λ e. subst (λ v. R (k x) (k' v)) (same e) (h x))

    pub reads : ReadsAlike step.reads may_read_word word_at
    unfolding step.reads
    reads address l l' k k' same h = read_passes _ _ _ k k' same h

    pub reads_byte : ReadsAlike step.reads_byte may_read byte_at
    unfolding step.reads_byte
    reads_byte address l l' k k' same h = read_passes _ _ _ k k' same h

    pub writes : (address : ℕ) (v : Option ℤ) (l l' : Local) (k k' : Local → Outcome)
        → (may_write_word s.holding (place_of address) ≡ true
        → R (k (record l { memory = with_word l.memory (place_of address) v }))
        (k' (record l' { memory = with_word l'.memory (place_of address) v })))
        → R (step.writes s address v l k) (step.writes s address v l' k')
    unfolding step.writes
    writes address v l l' k k' h = passes (may_write_word s.holding (place_of address)) NotOwn _ _ h

    pub writes_byte : (address byte : ℕ) (l l' : Local) (k k' : Local → Outcome)
        → (may_write s.holding (place_of address) ≡ true
        → R (k (record l { memory = with_byte l.memory (place_of address) (Some byte) }))
        (k' (record l' { memory = with_byte l'.memory (place_of address) (Some byte) })))
        → R (step.writes_byte s address byte l k) (step.writes_byte s address byte l' k')
    unfolding step.writes_byte
    writes_byte address byte l l' k k' h = passes (may_write s.holding (place_of address)) NotOwn _ _ h

    pub goes_on : (l l' : Local) → R (goes l) (goes l') → R (step.goes_on s l) (step.goes_on s l')
    unfolding step.goes_on
    goes_on l l' h = passes (ltb s.next s.code_length) OutsideCode _ _ (λ e. h)

    pub leads_to : (to : ℕ) (l l' : Local) → R (jumps to l) (jumps to l')
        → R (step.leads_to s to l) (step.leads_to s to l')
    unfolding step.leads_to
    leads_to to l l' h = passes (ltb to s.code_length) OutsideCode _ _ (λ e. h)

    pub lands_at : (to : ℕ) (l l' : Local) → R (lands to l) (lands to l')
        → R (step.lands_at s to l) (step.lands_at s to l')
    unfolding step.lands_at
    lands_at to l l' h = passes (ltb to s.code_length) OutsideCode _ _ (λ e. h)

    pub followed : (o o' : Outcome) → R o o' → R (step.followed_by_code s o) (step.followed_by_code s o')
    unfolding step.followed_by_code
    followed o o' h = passes (ltb s.next s.code_length) OutsideCode o o' (λ e. h)
