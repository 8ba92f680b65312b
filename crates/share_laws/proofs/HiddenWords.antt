-- The words of a PAR's block and channels, which no branch has, by their places and addresses.
use Rattle.std.proofs.Common.{◌≡◌, ℕ, ◌+◌, ◌||◌, true, false, inl, inr, ℤ, pos, ◌+ℤ◌, FitsSigned, List, [], ◌∷◌, length}
use Rattle.std.proofs.Common.{map, refl, sym, ap, ◌∙◌, subst, arith}
use Rattle.std.proofs.lemmas.Int.{ints}
use Rattle.std.specs.Int.{w32}
use Rattle.std.specs.Prelude.{int_le}
use Rattle.std.specs.List.{list_any}
use Rattle.std.proofs.lemmas.Bool.{or_cases, or_left, or_right, and_parts, false_from_ne_true}
use Rattle.small_laws.proofs.Comparisons.{int_le-true}
use Rattle.module_format.specs.declared.rows.ChannelRow.{ChannelRow}
use Rattle.module_format.specs.declared.rows.EndKind.TheVariants.{FrameWord}
use Rattle.module_format.specs.Contents.{Contents, Par}
use Rattle.module_format.specs.Contexts.{first_branch}
use Rattle.module_format.specs.Order.{InOrder, least_word}
use Rattle.module_format.specs.Pars.{ParKeeps, behind_par, no_branches, ChannelKeeps, behind_channel}
use Rattle.module_format.proofs.OrderLaws.{each}
use Rattle.machine_state.specs.BranchShares.{frame_address}
use Rattle.module_format.specs.declared.rows.Direction.{Direction}
use Rattle.machine_state.specs.Holding.{Holding, may_write, has_end}
use Rattle.machine_state.specs.Memory.{Memory, place_of}
use Rattle.machine_state.specs.Ownership.{IsAmong}
use Rattle.machine_state.specs.Spans.{Stretch, stretches_over, writes_place}
use Rattle.machine_state.specs.StartPlans.{hidden}
use Rattle.machine_state.proofs.Among.{any_among}
use Rattle.machine_state.proofs.EvenWords.{next_place}
use Rattle.states.specs.State.{is_same_number}
use Rattle.rulings.specs.Meaning.{Layout, HasFrame, IsOwnWord, words_in}
use Rattle.rulings.specs.Regions.{IsByteOf, channel_address}
use Rattle.rulings.specs.Remaining.{is_hidden, is_channel_word}
use Rattle.rulings.proofs.Words.{local_place, word_test}
use Rattle.share_laws.specs.Opening.{CanOpen}
use Rattle.rulings.proofs.Regions.{bytes_written}
use Rattle.share_laws.proofs.Rows.{among_at, each_at}
use Rattle.share_laws.proofs.ShareBytes.{frame_channel}

-- a word is the one that it is
pub is_itself : (k : ℤ) → is_same_number k k ≡ true
is_itself k = elim (word_test k k) [ inl t ↦ t.0 | inr t ↦ absurd (t.1 refl) ]

-- what a row's words may be
pub record RowFitsWords (par : Par) : Type 0 where
  pub block : FitsSigned w32 par.block
  pub channels : (c : ChannelRow) → IsAmong c par.channels → FitsSigned w32 c.word

-- the words of channels that rise fit
channels_fit : (low : ℤ) (cs : List ChannelRow) (c : ChannelRow) → InOrder ChannelKeeps behind_channel low cs
    → IsAmong c cs → FitsSigned w32 c.word
channels_fit low [] c keeps among = absurd among
channels_fit low (x ∷ cs) c keeps (inl here) =
    subst (λ (y : ChannelRow). FitsSigned w32 y.word) here keeps.0.word_fits
channels_fit low (x ∷ cs) c keeps (inr there) = channels_fit (x.word +ℤ pos 1) cs c keeps.1 there

module _ (m : Contents) (row : ℕ) (par : Par) (layout : Layout) (base : ℕ) (h : Holding) (memory : Memory)
    (depth : ℤ) (workspace : ℕ) (o : CanOpen m row par layout base h memory depth workspace) where
  -- the format says so of each row
  pub fits_words : RowFitsWords par
  fits_words = each_at RowFitsWords m.pars par
      (each (ParKeeps (first_branch m) (length m.code)) behind_par RowFitsWords
      (λ before row h. record {
        block = h.block_fits;
        channels = λ c among. channels_fit least_word row.channels c h.channels among;
      }) no_branches m.pars o.keeps.rows.pars) (among_at m.pars row par o.is)

  -- the frame, as a process has it whose workspace is word 0
  pub base_frame : HasFrame h (length memory) (words_in m par.context) layout.origin (pos 0) base
  base_frame = record {
    small = o.frame.small;
    from_start = o.frame.from_start;
    to_end = o.frame.to_end;
    own = o.frame.own;
    readable = o.frame.readable;
    start = (let at = o.origin in omega (arith, ints, at));
  }

  -- a hidden word is the starter's own
  pub hidden_word : (k : ℤ) → is_hidden par k ≡ true → IsOwnWord h (length memory) layout.origin k
  hidden_word k hides = o.frame.own k (o.own k hides)

  -- a hidden word lies at the place of its address
  pub hidden_place : (k : ℤ) (hides : is_hidden par k ≡ true) → FitsSigned w32 k
      → place_of (frame_address base k) ≡ (hidden_word k hides).place
  hidden_place k hides fits =
      let w = hidden_word k hides in
      local_place base_frame k fits w.place (let is = w.is in omega (arith, ints, is)) w.inside

  -- the first word of the block is hidden
  pub block_hides : is_hidden par par.block ≡ true
  block_hides = or_left _ (is_channel_word par par.block) (or_left _ (is_same_number (par.block +ℤ pos 1) par.block)
      (is_itself par.block))

  -- so is the second
  pub next_hides : is_hidden par (par.block +ℤ pos 1) ≡ true
  next_hides = or_left _ (is_channel_word par (par.block +ℤ pos 1))
      (or_right (is_same_number par.block (par.block +ℤ pos 1)) _ (is_itself (par.block +ℤ pos 1)))

  -- the word of a channel in the row is a channel's
  pub channel_is_word : (c : ChannelRow) → IsAmong c par.channels → is_channel_word par c.word ≡ true
  channel_is_word c among = any_among (λ (x : ChannelRow). is_same_number x.word c.word) par.channels c among (is_itself
      c.word)

  -- and is hidden
  pub channel_hides : (k : ℤ) → is_channel_word par k ≡ true → is_hidden par k ≡ true
  channel_hides k is = or_right (is_same_number par.block k || is_same_number (par.block +ℤ pos 1) k) _ is

  -- ---- bytes

  abbrev stretch : ℕ → Stretch
  stretch a = record { start = pos (place_of a); size = 4 }

  -- a byte of a hidden stretch is one of a hidden word
  of_place : (k : ℤ) (hides : is_hidden par k ≡ true) (a x : ℕ) → place_of a ≡ (hidden_word k hides).place
      → stretches_over (record { start = pos (place_of a); size = 4 }) x ≡ true
      → (k : ℤ) × (is_hidden par k ≡ true) × IsByteOf layout.origin k x
  of_place k hides a x at over =
      let w = hidden_word k hides in
      let is = w.is in
      let both = and_parts (int_le (pos (place_of a)) (pos x)) _ over in
      let low = int_le-true (pos (place_of a)) (pos x) both.0 in
      let high = int_le-true (pos (x + 1)) (pos (place_of a) +ℤ pos 4) both.1 in
      (k, hides, record { low = omega (arith, ints, low, at, is); high = omega (arith, ints, high, at, is) })

  -- the block's second word lies at the place of its address
  pub second_place : place_of (frame_address (frame_address base par.block) (pos 1))
      ≡ (hidden_word (par.block +ℤ pos 1) next_hides).place
  second_place =
      let first = hidden_place par.block block_hides fits_words.block in
      let w = hidden_word par.block block_hides in
      let inside = w.inside in
      let small = o.frame.small in
      let next = next_place (frame_address base par.block) (omega (arith, first, inside, small)) in
      let v = hidden_word (par.block +ℤ pos 1) next_hides in
      let is = w.is in
      let there = v.is in
      next ∙ (let e : place_of (frame_address base par.block) + 4 ≡ v.place = omega (arith, ints, first, is, there) in
      e)

  -- a byte of the stretches of channels is one of a channel's word
  channel_byte : (cs : List ChannelRow) (x : ℕ) → ((c : ChannelRow) → IsAmong c cs → IsAmong c par.channels)
      → list_any (λ s. stretches_over s x) (map stretch (map (λ (c : ChannelRow). frame_address base c.word) cs)) ≡ true
      → (k : ℤ) × (is_hidden par k ≡ true) × IsByteOf layout.origin k x
  channel_byte [] x all h = absurd (cc)
  channel_byte (c ∷ cs) x all h = elim (or_cases (stretches_over (stretch (frame_address base c.word)) x) _ h) [
    | inl here ↦
        let hides = channel_hides c.word (channel_is_word c (all c (inl refl))) in
        of_place c.word hides (frame_address base c.word) x
        (hidden_place c.word hides (fits_words.channels c (all c (inl refl)))) here
    | inr there ↦ channel_byte cs x (λ c among. all c (inr among)) there
  ]

  -- a byte of what no branch has is one of a hidden word
  pub hidden_byte : (x : ℕ) → writes_place (hidden base par) x ≡ true
      → (k : ℤ) × (is_hidden par k ≡ true) × IsByteOf layout.origin k x
  hidden_byte x h = elim (or_cases (stretches_over (stretch (frame_address base par.block)) x) _ h) [
    | inl here ↦ of_place par.block block_hides (frame_address base par.block) x
        (hidden_place par.block block_hides fits_words.block) here
    | inr there ↦ elim (or_cases (stretches_over (stretch (frame_address (frame_address base par.block) (pos 1))) x) _
        there) [
          | inl here ↦ of_place (par.block +ℤ pos 1) next_hides (frame_address (frame_address base par.block) (pos 1)) x
              second_place here
          | inr later ↦ channel_byte par.channels x (λ c among. among) later
        ]
  ]

  -- ---- addresses of channels

  -- the word of a channel fits
  pub channel_fits : (k : ℤ) → is_channel_word par k ≡ true → FitsSigned w32 k
  channel_fits k is = on par.channels (λ c among. fits_words.channels c among) is
    where
      on : (cs : List ChannelRow) → ((c : ChannelRow) → IsAmong c cs → FitsSigned w32 c.word)
          → list_any (λ (c : ChannelRow). is_same_number c.word k) cs ≡ true → FitsSigned w32 k
      on [] all h = absurd (cc)
      on (c ∷ cs) all h = elim (or_cases (is_same_number c.word k) _ h) [
        | inl here ↦ elim (word_test c.word k) [
          | inl t ↦ subst (λ (z : ℤ). FitsSigned w32 z) t.1 (all c (inl refl))
          | inr t ↦ let no' : false ≡ true = sym t.0 ∙ here in absurd (cc)
        ]
        | inr there ↦ on cs (λ c among. all c (inr among)) there
      ]

  -- it has the address that it has in the layout
  pub channel_at : (k : ℤ) → is_channel_word par k ≡ true
      → frame_address base k ≡ channel_address layout (FrameWord k)
  channel_at k is = frame_channel layout base k o.origin (channel_fits k is)

  -- channels with one address lie in one word
  pub one_channel : (j k : ℤ) → is_channel_word par j ≡ true → is_channel_word par k ≡ true
      → channel_address layout (FrameWord j) ≡ channel_address layout (FrameWord k) → j ≡ k
  one_channel j k a b same =
      let u = hidden_word j (channel_hides j a) in
      let v = hidden_word k (channel_hides k b) in
      let p = hidden_place j (channel_hides j a) (channel_fits j a) in
      let q = hidden_place k (channel_hides k b) (channel_fits k b) in
      let e : place_of (frame_address base j) ≡ place_of (frame_address base k) =
      ap place_of (channel_at j a ∙ same ∙ sym (channel_at k b)) in
      let is = u.is in
      let there = v.is in
      omega (arith, ints, p, q, e, is, there)

  -- no end that the starter has is one of a channel's word
  pub channel_free : (k : ℤ) (direction : Direction) → is_channel_word par k ≡ true
      → has_end h (record { address = channel_address layout (FrameWord k); direction = direction }) ≡ false
  channel_free k direction is = false_from_ne_true _ (λ held.
      let w = hidden_word k (channel_hides k is) in
      let at : place_of (channel_address layout (FrameWord k)) ≡ w.place =
      ap place_of (sym (channel_at k is)) ∙ hidden_place k (channel_hides k is) (channel_fits k is) in
      let first : may_write h w.place ≡ true =
      subst (λ (x : ℕ). may_write h x ≡ true) (let e : w.place + 0 ≡ w.place = omega arith in e)
      (bytes_written h w.place w.mine 0 (omega arith)) in
      o.free (record { address = channel_address layout (FrameWord k); direction = direction }) held
      (subst (λ (x : ℕ). may_write h x ≡ true) (sym at) first))
