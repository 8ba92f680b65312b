-- Where a first start breaks no rule, the words that its PAR wants are prepared, and are the starter's own.
use Rattle.std.proofs.Common.{◌≡◌, ℕ, ◌==◌, ◌&&◌, Bool, true, false, inl, inr, ℤ, pos}
use Rattle.std.proofs.Common.{negsuc, ◌+ℤ◌, List, length, Option, Some, None, sym, ap, ◌∙◌}
use Rattle.std.proofs.Common.{arith, eqb-true}
use Rattle.std.proofs.lemmas.Int.{ints}
use Rattle.std.specs.Prelude.{slice_get}
use Rattle.std.specs.List.{list_any, list_all}
use Rattle.std.proofs.lemmas.Bool.{or_cases, and_parts}
use Rattle.word_arithmetic.specs.Word.{least_word}
use Rattle.module_format.specs.declared.fact.Fact.TheVariants.{Unknown, Number, Pointer, CodeAddress, Loop}
use Rattle.module_format.specs.declared.fact.Fact.TheVariants.{ReturnAddress}
use Rattle.module_format.specs.declared.fact.Region.TheVariants as regions
use Rattle.module_format.specs.declared.fact.Step.TheVariants.{Byte, Word}
use Rattle.module_format.specs.declared.rows.ChannelRow.{ChannelRow}
use Rattle.module_format.specs.declared.rows.EndKind.{EndKind}
use Rattle.module_format.specs.declared.rows.EndKind.TheVariants as kinds
use Rattle.module_format.specs.declared.rows.EndRow.{EndRow}
use Rattle.module_format.specs.declared.rows.Parameter.{Parameter}
use Rattle.module_format.specs.Contents.{Contents, Par, Branch}
use Rattle.module_format.specs.Contexts.{parameters_at}
use Rattle.certificate.specs.Rights.{may_write_word, may_read_word}
use Rattle.machine_state.specs.JoinLookups.{branch_names, names_end}
use Rattle.machine_state.specs.Memory.{Memory}
use Rattle.machine_state.specs.Ownership.{IsAmong}
use Rattle.machine_state.proofs.Among.{all_among, any_all}
use Rattle.states.specs.declared.known.WordFact.{WordFact}
use Rattle.states.specs.declared.known.WordFact.TheVariants.{Alone, Index, Count}
use Rattle.states.specs.State.{State, is_same_number}
use Rattle.states.specs.Below.{holds_constant}
use Rattle.rulings.specs.Meaning.{Activation, is_pointer, is_code_address, MeansWord, is_fact}
use Rattle.rulings.specs.Meaning.{frame_word, word_of, code_address}
use Rattle.rulings.specs.Remaining.{is_hidden, is_channel_word}
use Rattle.rulings.proofs.Combining.{written_readable}
use Rattle.rulings.proofs.Entering.{constant_means}
use Rattle.rulings.proofs.Words.{same_word_by}
use Rattle.par_rules.specs.Openings.{is_prepared, block_is_prepared, channel_is_empty, named_are_as_given, is_as_given}
use Rattle.par_rules.specs.Openings.{end_is_as_given, is_start_of, is_code_address as is_code}
use Rattle.share_laws.specs.Prepared.{IsPrepared, SaysWhere}

-- ---- what facts say of values

-- a constant
constant_value : (m : Contents) (act : Activation) (k : ℤ) (fact : WordFact) (number : ℤ) (v : Option ℤ)
    → holds_constant fact number ≡ true → MeansWord m act k fact v → v ≡ Some number
constant_value m act k (Alone fact) number v t (is_fact means) = (constant_means m act.layout fact v number t means).1
constant_value m act k (Index loop) number v t means = absurd (cc)
constant_value m act k (Count loop) number v t means = absurd (cc)

-- the address of a code offset
code_value : (m : Contents) (act : Activation) (k : ℤ) (fact : WordFact) (to : ℕ) (v : Option ℤ)
    → is_code fact to ≡ true → MeansWord m act k fact v → v ≡ Some (word_of (pos (code_address m to)))
code_value m act k (Alone (CodeAddress offset)) to None t (is_fact means) = elim means [ ]
code_value m act k (Alone (CodeAddress offset)) to (Some x) t (is_fact (is_code_address is)) =
    ap (λ (z : ℤ). Some z) (is ∙ ap (λ (o : ℕ). word_of (pos (code_address m o))) (eqb-true offset to t))
code_value m act k (Alone Unknown) to v t means = absurd (cc)
code_value m act k (Alone (Number lo hi)) to v t means = absurd (cc)
code_value m act k (Alone (Pointer region lo hi step)) to v t means = absurd (cc)
code_value m act k (Alone (Loop base count weight)) to v t means = absurd (cc)
code_value m act k (Alone ReturnAddress) to v t means = absurd (cc)
code_value m act k (Index loop) to v t means = absurd (cc)
code_value m act k (Count loop) to v t means = absurd (cc)

-- the address of the first byte of what parameter j names
start_value : (m : Contents) (act : Activation) (k : ℤ) (fact : WordFact) (j : ℕ) (v : Option ℤ)
    → is_start_of j fact ≡ true → MeansWord m act k fact v
    → v ≡ Some (word_of (pos (act.layout.starts j)))
start_value m act k (Alone (Pointer regions.Frame lo hi step)) j v t means = absurd (cc)
start_value m act k (Alone (Pointer regions.Constants lo hi step)) j v t means = absurd (cc)
start_value m act k (Alone (Pointer (regions.Parameter number) lo hi Byte)) j v t means = absurd (cc)
start_value m act k (Alone (Pointer (regions.Parameter number) lo hi Word)) j None t (is_fact means) = elim means [ ]
start_value m act k (Alone (Pointer (regions.Parameter number) lo hi Word)) j (Some x) t
    (is_fact (is_pointer offset low high stepped is)) =
    let both = and_parts _ (is_same_number hi (pos 0)) t in
    let one = and_parts (number == j) (is_same_number lo (pos 0)) both.0 in
    let first = same_word_by lo (pos 0) one.1 in
    let last = same_word_by hi (pos 0) both.1 in
    let none : offset ≡ pos 0 = omega (arith, ints, first, last, low, high) in
    let sum : pos (act.layout.starts j) +ℤ offset ≡ pos (act.layout.starts j) = omega (arith, ints, none) in
    ap (λ (z : ℤ). Some z) (is ∙ (ap (λ (n : ℕ). word_of (pos (act.layout.starts n) +ℤ offset))
    (eqb-true number j one.0) ∙ ap word_of sum))
start_value m act k (Alone Unknown) j v t means = absurd (cc)
start_value m act k (Alone (Number lo hi)) j v t means = absurd (cc)
start_value m act k (Alone (CodeAddress offset)) j v t means = absurd (cc)
start_value m act k (Alone (Loop base count weight)) j v t means = absurd (cc)
start_value m act k (Alone ReturnAddress) j v t means = absurd (cc)
start_value m act k (Index loop) j v t means = absurd (cc)
start_value m act k (Count loop) j v t means = absurd (cc)

-- ---- the words of a PAR

module _ (m : Contents) (s : State) (act : Activation) (memory : Memory) (par : Par)
    (context : par.context ≡ s.context) (t : is_prepared m s par ≡ true)
    (words : (k : ℤ) → may_read_word m par.context k ≡ true
    → MeansWord m act k (s.frame k) (frame_word memory act.layout.origin k)) where
  three : (block_is_prepared m s par ≡ true) × (list_all (channel_is_empty m s) par.channels ≡ true)
      × (list_all (named_are_as_given m s) par.branches ≡ true)
  three =
      let both = and_parts _ (list_all (named_are_as_given m s) par.branches) t in
      let first = and_parts (block_is_prepared m s par) (list_all (channel_is_empty m s) par.channels) both.0 in
      (first.0, first.1, both.1)

  -- in the PAR's context
  may_write : (k : ℤ) → may_write_word m s.context k ≡ true → may_write_word m par.context k ≡ true
  may_write k may = ap (λ (n : ℕ). may_write_word m n k) context ∙ may

  -- what may be written is known
  word : (k : ℤ) → may_write_word m s.context k ≡ true
      → MeansWord m act k (s.frame k) (frame_word memory act.layout.origin k)
  word k may = words k (written_readable m par.context k (may_write k may))

  first_of_block : (may_write_word m s.context par.block ≡ true) × (is_code (s.frame par.block) par.successor ≡ true)
  first_of_block =
      let both = and_parts (may_write_word m s.context par.block && is_code (s.frame par.block) par.successor) _
      three.0 in
      and_parts (may_write_word m s.context par.block) _ both.0

  second_of_block : (may_write_word m s.context (par.block +ℤ pos 1) ≡ true)
      × (holds_constant (s.frame (par.block +ℤ pos 1)) (pos (length par.branches) +ℤ pos 1) ≡ true)
  second_of_block =
      let both = and_parts (may_write_word m s.context par.block && is_code (s.frame par.block) par.successor) _
      three.0 in
      and_parts (may_write_word m s.context (par.block +ℤ pos 1)) _ both.1

  channel : (c : ChannelRow) → IsAmong c par.channels
      → (may_write_word m s.context c.word ≡ true) × (holds_constant (s.frame c.word) least_word ≡ true)
  channel c among = and_parts (may_write_word m s.context c.word) _
      (all_among (channel_is_empty m s) par.channels c three.1 among)

  -- a channel's word is one of a row
  channel_word : (k : ℤ) (channels : List ChannelRow)
      → list_any (λ (c : ChannelRow). is_same_number c.word k) channels ≡ true
      → list_all (channel_is_empty m s) channels ≡ true → may_write_word m s.context k ≡ true
  channel_word k channels some all =
      let c = any_all (λ (c : ChannelRow). is_same_number c.word k) (channel_is_empty m s) channels some all in
      ap (may_write_word m s.context) (sym (same_word_by c.0.word k c.1))
      ∙ (and_parts (may_write_word m s.context c.0.word) _ c.2).0

  -- the words of the block and the channels are the starter's own
  pub hidden_own : (k : ℤ) → is_hidden par k ≡ true → may_write_word m par.context k ≡ true
  hidden_own k hides = may_write k (elim (or_cases _ (is_channel_word par k) hides) [
    | inr there ↦ channel_word k par.channels there three.1
    | inl block ↦ elim (or_cases (is_same_number par.block k) _ block) [
      | inl first ↦ ap (may_write_word m s.context) (sym (same_word_by par.block k first)) ∙ first_of_block.0
      | inr second ↦ ap (may_write_word m s.context) (sym (same_word_by (par.block +ℤ pos 1) k second))
          ∙ second_of_block.0
    ]
  ])

  -- a parameter that is as it was given
  given : (j : ℕ) (p : Parameter) → slice_get (parameters_at m par.context) j ≡ Some p → is_as_given m s j ≡ true
      → SaysWhere m par act.layout memory j p
  given j p there h =
      let here : slice_get (parameters_at m s.context) j ≡ Some p =
      ap (λ (n : ℕ). slice_get (parameters_at m n) j) (sym context) ∙ there in
      let both = and_parts (may_read_word m s.context (pos p.word)) _
      (ap (λ (o : Option Parameter). elim o as (λ o. Bool) [
        | None ↦ false
        | Some p ↦ may_read_word m s.context (pos p.word) && is_start_of j (s.frame (pos p.word))
      ]) (sym here) ∙ h) in
      let reads = ap (λ (n : ℕ). may_read_word m n (pos p.word)) context ∙ both.0 in
      record {
        reads = reads;
        is = start_value m act (pos p.word) (s.frame (pos p.word)) j
            (frame_word memory act.layout.origin (pos p.word)) both.1 (words (pos p.word) reads);
      }

  -- a number in a list of which each is
  listed_given : (numbers : List ℕ) (j : ℕ) → list_all (is_as_given m s) numbers ≡ true
      → list_any (λ k. k == j) numbers ≡ true → is_as_given m s j ≡ true
  listed_given numbers j all some =
      let k = any_all (λ k. k == j) (is_as_given m s) numbers some all in
      ap (is_as_given m s) (sym (eqb-true k.0 j k.1)) ∙ k.2

  -- the parameter of an end
  end_given : (kind : EndKind) (j : ℕ) → end_is_as_given m s kind ≡ true → names_end j kind ≡ true
      → is_as_given m s j ≡ true
  end_given (kinds.Parameter (pos i) element) j given names = ap (is_as_given m s) (sym (eqb-true i j names)) ∙ given
  end_given (kinds.Parameter (negsuc i) element) j given names = absurd (cc)
  end_given (kinds.FrameWord word) j given names = absurd (cc)
  end_given (kinds.Link link) j given names = absurd (cc)

  -- a parameter that a branch names
  branch_given : (b : Branch) (j : ℕ) → named_are_as_given m s b ≡ true → branch_names j b ≡ true
      → is_as_given m s j ≡ true
  branch_given b j all names =
      let last = and_parts _ (list_all (λ (e : EndRow). end_is_as_given m s e.kind) b.ends) all in
      let both = and_parts (list_all (is_as_given m s) b.written_parameters) _ last.0 in
      elim (or_cases _ (list_any (λ (e : EndRow). names_end j e.kind) b.ends) names) [
        | inr ends ↦
            let e = any_all (λ (e : EndRow). names_end j e.kind) (λ (e : EndRow). end_is_as_given m s e.kind) b.ends
            ends last.1 in
            end_given e.0.kind j e.2 e.1
        | inl numbers ↦ elim (or_cases (list_any (λ k. k == j) b.written_parameters) _ numbers) [
          | inl written ↦ listed_given b.written_parameters j both.0 written
          | inr read ↦ listed_given b.read_parameters j both.1 read
        ]
      ]

  -- all is prepared
  pub prepared : IsPrepared m par act.layout memory
  prepared = record {
    block = code_value m act par.block (s.frame par.block) par.successor
        (frame_word memory act.layout.origin par.block) first_of_block.1 (word par.block first_of_block.0);
    count = constant_value m act (par.block +ℤ pos 1) (s.frame (par.block +ℤ pos 1))
        (pos (length par.branches) +ℤ pos 1) (frame_word memory act.layout.origin (par.block +ℤ pos 1))
        second_of_block.1 (word (par.block +ℤ pos 1) second_of_block.0);
    channels = λ c among. constant_value m act c.word (s.frame c.word) least_word
        (frame_word memory act.layout.origin c.word) (channel c among).1 (word c.word (channel c among).0);
    parameters = λ j p named there.
        let b = any_all (branch_names j) (named_are_as_given m s) par.branches named three.2 in
        given j p there (branch_given b.0 j b.2 b.1);
  }
