-- What registers name that a start and an end use: a word of the frame, and a branch.
use Rattle.std.proofs.Common.{◌≡◌, ℕ, ◌+◌, ◌%◌, ◌==◌, ℤ, pos, ◌+ℤ◌, ◌*ℤ◌, ◌≤ℤ◌, Bool, true, false, cond}
use Rattle.std.proofs.Common.{Option, Some, None, refl, ap, ◌∙◌, subst, arith, if◌then◌else◌}
use Rattle.std.proofs.lemmas.Bool.{eq-eqb, and_parts}
use Rattle.std.proofs.lemmas.Int.{ints}
use Rattle.std.specs.Prelude.{IsTrue}
use Rattle.module_format.specs.Order.{is_stepped}
use Rattle.module_format.specs.Rows.{Fact}
use Rattle.module_format.specs.declared.fact.Fact.TheVariants.{Unknown, Number, Pointer, CodeAddress, Loop}
use Rattle.module_format.specs.declared.fact.Fact.TheVariants.{ReturnAddress}
use Rattle.module_format.specs.declared.fact.Region.TheVariants as regions
use Rattle.module_format.specs.declared.rows.EndKind.TheVariants.{FrameWord}
use Rattle.module_format.specs.Contents.{Contents}
use Rattle.machine_state.specs.declared.fault.FaultKind.TheVariants.{Unaligned}
use Rattle.machine_state.specs.declared.op.Op.TheVariants.{StartProcess, EndProcess}
use Rattle.machine_state.specs.declared.process.Mode as machine
use Rattle.machine_state.specs.declared.process.Mode.TheVariants as machine_modes
use Rattle.machine_state.specs.JoinLookups.{Found, found_at}
use Rattle.machine_state.specs.LocalStep as step
use Rattle.machine_state.specs.LocalStep.{target}
use Rattle.machine_state.specs.Memory.{data_start}
use Rattle.machine_state.specs.Site as steps
use Rattle.machine_state.specs.Site.{Local, starts, joins, fails}
use Rattle.states.specs.State.{is_same_number}
use Rattle.rulings.specs.Meaning.{Layout, Means, is_number, is_pointer, region_start, word_of, place_in}
use Rattle.rulings.specs.Regions.{channel_address}
use Rattle.rulings.specs.Rulings.{Site}
use Rattle.rulings.proofs.Addresses.{stepped_quotient}
use Rattle.rulings.proofs.EvenChannels.{even_rest}
use Rattle.rulings.proofs.Reaching.{address_of}
use Rattle.rulings.proofs.Words.{same_word_by}
use Rattle.par_rules.specs.ParRules.{is_at_word, is_workspace, named_branch}

-- ---- words of the frame

-- a value is the address of word k of the frame
pub record IsAddress (layout : Layout) (k : ℤ) (v : Option ℤ) : Type 0 where
  pub value : ℤ
  pub is : v ≡ Some value
  pub address : step.address value ≡ channel_address layout (FrameWord k)

-- a pointer to the frame, and to no other byte
exact_address : (m : Contents) (layout : Layout) (lo hi k offset x : ℤ) → lo ≡ pos 4 *ℤ k
    → hi ≡ pos 4 *ℤ k → lo ≤ℤ offset → offset ≤ℤ hi → x ≡ word_of (region_start m layout regions.Frame +ℤ offset)
    → step.address x ≡ channel_address layout (FrameWord k)
exact_address m layout lo hi k offset x first last low high is =
    let there : offset ≡ pos 4 *ℤ k = omega (arith, ints, first, last, low, high) in
    let sum : pos data_start +ℤ layout.origin +ℤ offset ≡ pos data_start +ℤ place_in layout.origin k =
    omega (arith, ints, there) in
    ap step.address (is ∙ ap word_of sum)

-- the pointer to word k has its address
pub word_address : (m : Contents) (layout : Layout) (fact : Fact) (k : ℤ) (v : Option ℤ) → is_at_word k fact ≡ true
    → Means m layout fact v → IsAddress layout k v
word_address m layout (Pointer regions.Frame lo hi step) k None t means = elim means [ ]
word_address m layout (Pointer regions.Frame lo hi step) k (Some x) t (is_pointer offset low high stepped is) =
    let both = and_parts (is_same_number lo (pos 4 *ℤ k)) (is_same_number hi (pos 4 *ℤ k)) t in
    record {
      value = x;
      is = refl;
      address = exact_address m layout lo hi k offset x
          (same_word_by lo (pos 4 *ℤ k) both.0) (same_word_by hi (pos 4 *ℤ k) both.1) low high is;
    }
word_address m layout (Pointer regions.Constants lo hi step) k v t means = absurd (cc)
word_address m layout (Pointer (regions.Parameter j) lo hi step) k v t means = absurd (cc)
word_address m layout Unknown k v t means = absurd (cc)
word_address m layout (Number lo hi) k v t means = absurd (cc)
word_address m layout (CodeAddress offset) k v t means = absurd (cc)
word_address m layout (Loop base count weight) k v t means = absurd (cc)
word_address m layout ReturnAddress k v t means = absurd (cc)

-- and so has one with a step of words
pub workspace_address : (m : Contents) (layout : Layout) (fact : Fact) (k : ℤ) (v : Option ℤ)
    → is_workspace k fact ≡ true → Means m layout fact v → IsAddress layout k v
workspace_address m layout (Pointer region lo hi step) k v t means =
    word_address m layout (Pointer region lo hi step) k v (and_parts _ _ t).0 means
workspace_address m layout Unknown k v t means = absurd (cc)
workspace_address m layout (Number lo hi) k v t means = absurd (cc)
workspace_address m layout (CodeAddress offset) k v t means = absurd (cc)
workspace_address m layout (Loop base count weight) k v t means = absurd (cc)
workspace_address m layout ReturnAddress k v t means = absurd (cc)

-- the address of a word is a multiple of 4
pub even_address : (layout : Layout) (k x : ℤ) → IsTrue (is_stepped layout.origin)
    → step.address x ≡ channel_address layout (FrameWord k) → (step.address x % 4 == 0) ≡ true
even_address layout k x even is =
    let q = stepped_quotient layout.origin even in
    let rest : step.address x % 4 ≡ 0 =
    ap (λ (n : ℕ). n % 4) (is ∙ address_of (pos data_start +ℤ place_in layout.origin k))
    ∙ even_rest (pos data_start +ℤ place_in layout.origin k) (pos 536870976 +ℤ q.0 +ℤ k) (omega (arith, ints, q.1)) in
    eq-eqb (step.address x % 4) 0 rest

-- ---- the branch

-- the branch that a constant names begins where the step goes
pub record IsNamed (site : Site) (found : Found) (v : Option ℤ) : Type 0 where
  pub value : ℤ
  pub is : v ≡ Some value
  pub found_is : found_at site.contents (target (site.at + site.length) value) ≡ Some found

pub named_found : (site : Site) (layout : Layout) (fact : Fact) (found : Found) (v : Option ℤ)
    → named_branch site fact ≡ Some found → Means site.contents layout fact v → IsNamed site found v
named_found site layout (Number lo hi) found None named means = elim means [ ]
named_found site layout (Number lo hi) found (Some x) named (is_number low high fits) = on (is_same_number lo hi) refl
    named
  where
    on : (b : Bool) → is_same_number lo hi ≡ b
        → ◌≡◌ {A = Option Found} (if b then found_at site.contents (target (site.at + site.length) lo) else None)
        (Some found) → IsNamed site found (Some x)
    on true one is =
        let same = same_word_by lo hi one in
        let it : lo ≡ x = omega (arith, ints, same, low, high) in
        record {
          value = x;
          is = refl;
          found_is = subst (λ (z : ℤ). found_at site.contents (target (site.at + site.length) z) ≡ Some found) it is;
        }
    on false many is = absurd (cc)
named_found site layout Unknown found v named means = absurd (cc)
named_found site layout (Pointer region lo hi step) found v named means = absurd (cc)
named_found site layout (CodeAddress offset) found v named means = absurd (cc)
named_found site layout (Loop base count weight) found v named means = absurd (cc)
named_found site layout ReturnAddress found v named means = absurd (cc)

-- ---- steps

-- the mode of a process that is in no alternation
pub data IsOutside : machine.Mode → Type 0 where
  outside_plain : IsOutside machine_modes.Plain
  outside_among : IsOutside machine_modes.Starting

pub outside_is : (mode : machine.Mode) → IsOutside mode → (o : steps.Outcome) → step.outside_alternation mode o ≡ o
unfolding step.outside_alternation
outside_is mode outside_plain o = refl
outside_is mode outside_among o = refl

-- a start whose registers are known
pub start_step : (site : steps.Site) (l : Local) (a b : ℤ) → IsOutside site.mode → l.registers.stack.a ≡ Some a
    → l.registers.stack.b ≡ Some b → (step.address a % 4 == 0) ≡ true
    → step.operation_step site StartProcess l
    ≡ starts (target site.next b) (step.address a) (step.without_registers l)
unfolding step.operation_step step.uses step.aligned
start_step site l a b outside first second even =
    outside_is site.mode outside _
    ∙ (ap (λ (o : Option ℤ). step.uses o (λ a. step.uses l.registers.stack.b (λ b. step.aligned a
    (λ workspace. starts (target site.next b) workspace (step.without_registers l))))) first
    ∙ (ap (λ (o : Option ℤ). step.uses o (λ b. step.aligned a
    (λ workspace. starts (target site.next b) workspace (step.without_registers l)))) second
    ∙ ap (λ (c : Bool). cond c (starts (target site.next b) (step.address a) (step.without_registers l))
    (fails Unaligned)) even))

-- an end whose register is known
pub end_step : (site : steps.Site) (l : Local) (a : ℤ) → IsOutside site.mode → l.registers.stack.a ≡ Some a
    → (step.address a % 4 == 0) ≡ true → step.operation_step site EndProcess l ≡ joins (step.address a) l
unfolding step.operation_step step.uses step.aligned
end_step site l a outside first even =
    outside_is site.mode outside _
    ∙ (ap (λ (o : Option ℤ). step.uses o (λ a. step.aligned a (λ block. joins block l))) first
    ∙ ap (λ (c : Bool). cond c (joins (step.address a) l) (fails Unaligned)) even)
