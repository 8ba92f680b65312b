-- Where the bytes of a message lie, and that they lie beside the words that scheduling takes.
use Rattle.std.proofs.Common.{◌≡◌, ℕ, zero, suc, ◌+◌, ◌-◌, ◌≤◌, ◌<◌, ◌==◌, ℤ, pos, negsuc, ◌+ℤ◌, ◌≤ℤ◌}
use Rattle.std.proofs.Common.{◌<ℤ◌, Bool, true, false, not, ◌||◌, None, refl, sym, ap, ◌∙◌, arith, ◌⊎◌, inl, inr}
use Rattle.std.proofs.lemmas.Bool.{cases_lt, eq-eqb, or_right, cases_Bool}
use Rattle.std.proofs.lemmas.Bool.Decides.{eqb_tells}
use Rattle.std.proofs.lemmas.Int.{ints}
use Rattle.machine_state.specs.declared.process.Mode as machine
use Rattle.machine_state.specs.declared.process.Exchange.{Exchange}
use Rattle.machine_state.specs.Memory.{Memory, byte_at, with_word, place_of, scheduling_word}
use Rattle.machine_state.specs.Holding.{Holding}
use Rattle.machine_state.specs.Site.{Local}
use Rattle.machine_state.specs.LocalStep as step
use Rattle.machine_state.specs.Seeing.{Agree}
use Rattle.machine_state.proofs.Reading.{byte_at-with_word_other}
use Rattle.machine_state.proofs.Agreeing.{word_agrees}
use Rattle.module_format.specs.declared.fact.Region.{Region}
use Rattle.module_format.specs.declared.fact.Region.TheVariants as regions
use Rattle.module_format.specs.Contents.{Contents}
use Rattle.states.specs.State.{State}
use Rattle.rulings.specs.Meaning.{Activation, place_in}
use Rattle.rulings.specs.Regions.{IsByteOf}
use Rattle.rulings.specs.Fitting.{Situation}
use Rattle.rulings.specs.Buffers.{message_place, is_filled, is_of_message}
use Rattle.rulings.proofs.Within.{Modes, Within, ArePlain}
use Rattle.rulings.proofs.Words.{int_le_tells}
use Rattle.rulings.proofs.Offsets.{place_behind}
use Rattle.rulings.proofs.Combining.{MaySchedule, Scheduled}
use Rattle.rulings.proofs.BlocksMove.{IsReadAt, written_in_frame, regions_apart, meet_tells}

-- ---- the places of a message

module _ (e : Exchange) (small : place_of e.address + e.length < 4294967296) where
  pub message_place_is : (j : ℕ) → j < e.length → message_place e j ≡ place_of e.address + j
  message_place_is j less = place_behind e.address j (omega arith)

  tells : (j more place : ℕ) → j + more ≤ e.length → is_filled e j more place ≡ true
      → (place_of e.address + j ≤ place) × (place < place_of e.address + j + more)
  tells j zero place few t = absurd (cc)
  tells j (suc more) place few t = elim (eqb_tells place (message_place e j)) [
    | inl p ↦
        let is : place ≡ message_place e j = p.1 in
        let at = message_place_is j (omega arith) in
        (omega arith, omega arith)
    | inr p ↦
        let rest = tells (j + 1) more place (omega arith)
        (sym (ap (λ (b : Bool). b || is_filled e (j + 1) more place) p.0) ∙ t) in
        (omega (arith, rest.0), omega (arith, rest.1))
  ]

  pub of_message_tells : (place : ℕ) → is_of_message e place ≡ true
      → (place_of e.address ≤ place) × (place < place_of e.address + e.length)
  of_message_tells place t =
      let both = tells 0 e.length place (omega arith) t in
      (omega (arith, both.0), omega (arith, both.1))

  filled_at : (j more i : ℕ) → i < more → j + more ≤ e.length
      → is_filled e j more (place_of e.address + (j + i)) ≡ true
  filled_at j zero i less few = absurd (omega arith)
  filled_at j (suc more) zero less few =
      ap (λ (b : Bool). b || is_filled e (j + 1) more (place_of e.address + (j + 0)))
      (eq-eqb (place_of e.address + (j + 0)) (message_place e j)
      (let at = message_place_is j (omega arith) in omega arith))
  filled_at j (suc more) (suc i) less few =
      or_right (place_of e.address + (j + suc i) == message_place e j) _
      (ap (is_filled e (j + 1) more)
      (let is : place_of e.address + (j + suc i) ≡ place_of e.address + (j + 1 + i) = omega arith in is)
      ∙ filled_at (j + 1) more i (omega arith) (omega arith))

  pub of_message : (place : ℕ) → place_of e.address ≤ place → place < place_of e.address + e.length
      → is_of_message e place ≡ true
  of_message place low high =
      ap (is_of_message e)
      (let is : place ≡ place_of e.address + (0 + (place - place_of e.address)) = omega arith in is)
      ∙ filled_at 0 e.length (place - place_of e.address) (omega arith) (omega arith)

  -- a place is that of one of its bytes, or lies beside them
  pub beside_message : (place : ℕ) → is_of_message e place ≡ false
      → (place < place_of e.address) ⊎ (place_of e.address + e.length ≤ place)
  beside_message place t = elim (cases_lt place (place_of e.address)) [
    | inl low ↦ inl low
    | inr from ↦ elim (cases_lt place (place_of e.address + e.length)) [
      | inr high ↦ inr high
      | inl inside ↦ let no : true ≡ false = sym (of_message place from inside) ∙ t in absurd (cc)
    ]
  ]

-- ---- beside the words that scheduling takes

-- the byte at a place is none of the three words below a workspace
abbrev pub IsOff : ℤ → ℤ → ℕ → Type 0
IsOff origin depth place =
    (pos place <ℤ place_in origin (depth +ℤ negsuc 2)) ⊎ (place_in origin depth ≤ℤ pos place)

off_by : (origin depth : ℤ) (place : ℕ) → ((n : ℕ) → n < 3 → IsByteOf origin (depth +ℤ negsuc n) place → ⊥)
    → IsOff origin depth place
off_by origin depth place none = elim (int_le_tells (place_in origin depth) (pos place)) [
  | inl p ↦ inr p.1
  | inr p ↦ elim (int_le_tells (place_in origin (depth +ℤ negsuc 0)) (pos place)) [
    | inl q ↦ let high = p.1 in absurd (none 0 (omega arith) (record { low = q.1; high = omega (arith, ints) }))
    | inr q ↦ elim (int_le_tells (place_in origin (depth +ℤ negsuc 1)) (pos place)) [
      | inl r ↦ let high = q.1 in absurd (none 1 (omega arith) (record { low = r.1; high = omega (arith, ints) }))
      | inr r ↦ elim (int_le_tells (place_in origin (depth +ℤ negsuc 2)) (pos place)) [
        | inl t ↦ let high = r.1 in absurd (none 2 (omega arith) (record { low = t.1; high = omega (arith, ints) }))
        | inr t ↦ inl t.1
      ]
    ]
  ]
]

-- so it is where it is read through another region than the frame
pub off_scheduling : {m : Contents} {h : Holding} {mode : machine.Mode} {act : Activation} {s : State} {l : Local}
    → Within ArePlain m h mode act s l → MaySchedule m s.context s.depth → (region : Region) (place : ℕ)
    → (region ≡ regions.Frame → ⊥) → IsReadAt m s.context act.layout region place
    → IsOff act.layout.origin s.depth place
off_scheduling {m} {h} {mode} {act} {s} {l} a may region place differ read =
    off_by act.layout.origin s.depth place none
  where
    none : (n : ℕ) → n < 3 → IsByteOf act.layout.origin (s.depth +ℤ negsuc n) place → ⊥
    none zero less b =
        regions_apart a region regions.Frame place differ read
        (written_in_frame (s.depth +ℤ negsuc 0) refl may.first b)
    none (suc zero) less b =
        regions_apart a region regions.Frame place differ read
        (written_in_frame (s.depth +ℤ negsuc 1) refl may.second b)
    none (suc (suc zero)) less b =
        regions_apart a region regions.Frame place differ read
        (written_in_frame (s.depth +ℤ negsuc 2) refl may.third b)
    none (suc (suc (suc n))) less b = omega arith

module _ {E : Modes} {x : Situation} {s : State} {l : Local} (d : Scheduled x E s l) where
  -- a byte that is none of them stays
  pub off_stays : (memory : Memory) (place : ℕ) → IsOff x.act.layout.origin s.depth place
      → byte_at (step.without_scheduling_words memory l.registers.workspace) place ≡ byte_at memory place
  off_stays memory place off =
      let at = λ (n : ℕ). place_of (scheduling_word l.registers.workspace n) in
      let one = with_word memory (at 0) None in
      let two = with_word one (at 1) None in
      byte_at-with_word_other two (at 2) place None (beside (at 2) 2 (omega arith) (d.places 2 (omega arith)))
      ∙ (byte_at-with_word_other one (at 1) place None (beside (at 1) 1 (omega arith) (d.places 1 (omega arith)))
      ∙ byte_at-with_word_other memory (at 0) place None (beside (at 0) 0 (omega arith) (d.places 0 (omega arith))))
    where
      beside : (p n : ℕ) → n < 3 → pos p ≡ place_in x.act.layout.origin (s.depth +ℤ negsuc n)
          → (place < p) ⊎ (p + 4 ≤ place)
      beside p n less is = on n less is off
        where
          on : (n : ℕ) → n < 3 → pos p ≡ place_in x.act.layout.origin (s.depth +ℤ negsuc n)
              → IsOff x.act.layout.origin s.depth place → (place < p) ⊎ (p + 4 ≤ place)
          on zero less is (inl low) = inl (omega (arith, ints))
          on zero less is (inr high) = inr (omega (arith, ints))
          on (suc zero) less is (inl low) = inl (omega (arith, ints))
          on (suc zero) less is (inr high) = inr (omega (arith, ints))
          on (suc (suc zero)) less is (inl low) = inl (omega (arith, ints))
          on (suc (suc zero)) less is (inr high) = inr (omega (arith, ints))
          on (suc (suc (suc n))) less is off = absurd (omega arith)

  -- memories that agree do so without them
  pub unscheduled_agree : (seen : ℕ → Bool) (old new : Memory) → Agree seen old new
      → Agree seen (step.without_scheduling_words old l.registers.workspace)
      (step.without_scheduling_words new l.registers.workspace)
  unscheduled_agree seen old new agree =
      let at = λ (n : ℕ). place_of (scheduling_word l.registers.workspace n) in
      word_agrees seen _ _ (at 2) None (word_agrees seen _ _ (at 1) None (word_agrees seen old new (at 0) None agree))

  -- `n` bytes of which each is beside them do not meet them
  pub beside_scheduling : (place n : ℕ) → 0 < n
      → ((i : ℕ) → i < n → IsOff x.act.layout.origin s.depth (place + i))
      → not (step.places_meet place n (place_of (scheduling_word l.registers.workspace 2)) 12) ≡ true
  beside_scheduling place n some off =
      let third = place_of (scheduling_word l.registers.workspace 2) in
      elim (cases_Bool (step.places_meet place n third 12)) [
        | inr t ↦ ap not t
        | inl t ↦
            let tells = meet_tells place n third 12 t in
            absurd (elim (cases_lt place third) [
              | inl before ↦ outside third (d.places 2 (omega arith)) (third - place) (omega arith) (omega arith)
                  (off (third - place) (omega (arith, tells.1)))
              | inr behind ↦ outside third (d.places 2 (omega arith)) 0 (omega arith) (omega (arith, tells.0))
                  (off 0 some)
            ])
      ]
    where
      outside : (third : ℕ) → pos third ≡ place_in x.act.layout.origin (s.depth +ℤ negsuc 2) → (i : ℕ)
          → third ≤ place + i → place + i < third + 12 → IsOff x.act.layout.origin s.depth (place + i) → ⊥
      outside third is i low high (inl before) = omega (arith, ints)
      outside third is i low high (inr behind) = omega (arith, ints)
