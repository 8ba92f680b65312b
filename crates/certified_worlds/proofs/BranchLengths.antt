-- Messages at the ends that a branch is given are as long as what the branch began with knows.
use Rattle.std.proofs.Common.{◌≡◌, ℕ, suc, ◌+◌, ◌*◌, ◌%◌, ◌^◌, ◌&&◌, ◌||◌, Bool, true, false, cond, inl, inr, ℤ, pos}
use Rattle.std.proofs.Common.{negsuc, List, [], ◌∷◌, map, Option, Some, None, refl, sym, ap, ◌∙◌, subst}
use Rattle.std.specs.Prelude.{slice_get, find, int_le, option_map}
use Rattle.std.specs.List.{list_any}
use Rattle.std.proofs.lemmas.Bool.{or_cases, and_parts}
use Rattle.module_format.specs.declared.rows.ChannelRow.{ChannelRow}
use Rattle.module_format.specs.declared.rows.Direction.{Direction}
use Rattle.module_format.specs.declared.rows.EndKind.{EndKind}
use Rattle.module_format.specs.declared.rows.EndKind.TheVariants as ends
use Rattle.module_format.specs.Contents.{Contents, Par}
use Rattle.certificate.specs.Rights as rights
use Rattle.certificate.specs.Rights.{listed_length}
use Rattle.machine_state.specs.declared.holding.End.{End}
use Rattle.machine_state.specs.declared.process.Channel.{Channel}
use Rattle.machine_state.specs.Holding.{Holding, has_end}
use Rattle.machine_state.specs.JoinLookups.{Found}
use Rattle.machine_state.specs.Memory.{Memory}
use Rattle.machine_state.specs.Moves.{cell_of}
use Rattle.machine_state.specs.Ownership.{IsAmong}
use Rattle.machine_state.proofs.Shares.{end_among}
use Rattle.states.specs.State.{is_same_number}
use Rattle.rulings.specs.Channels.{message_length}
use Rattle.rulings.specs.Meaning.{Layout}
use Rattle.rulings.specs.Regions.{scope_of, channel_address, length_left, HoldsNamed}
use Rattle.rulings.specs.Remaining.{is_own_end}
use Rattle.rulings.proofs.Words.{word_test}
use Rattle.share_laws.specs.Climbing.{LieAlike}
use Rattle.share_laws.specs.Shares.{end_at}
use Rattle.share_laws.specs.Starts.{CanStart, held_by_branch}
use Rattle.share_laws.proofs.ShareBytes.{shares_are_words}
use Rattle.certified_worlds.specs.Invariant.{LengthAgrees, at_link, at_channel}
use Rattle.certified_worlds.specs.Point.{Began}
use Rattle.certified_worlds.proofs.EndsAreInOrder.{same_address}
use Rattle.certified_worlds.proofs.StartsKeepPars.{began_by}

-- ---- the channels of a row

-- a word is that of a channel of the row, the length of which is listed, or of none
data Listing (rows : List ChannelRow) (word : ℤ) : Type 0 where
  of_row : (n : ℕ) (row : ChannelRow) → slice_get rows n ≡ Some row → row.word ≡ word
      → listed_length rows word ≡ Some row.length → Listing rows word
  of_none : listed_length rows word ≡ None → list_any (λ (c : ChannelRow). is_same_number c.word word) rows ≡ false
      → Listing rows word

-- the length that is listed, by whether the first channel is in the word
abbrev length_if : ChannelRow → List ChannelRow → ℤ → Bool → Option ℕ
length_if c cs word b = option_map (λ (channel : ChannelRow). channel.length) (cond b (Some c)
    (find (λ channel. int_le channel.word word && int_le word channel.word) cs))

listing : (rows : List ChannelRow) (word : ℤ) → Listing rows word
listing [] word = of_none refl refl
listing (c ∷ cs) word = elim (word_test c.word word) [
  | inl here ↦ of_row 0 c refl here.1 (ap (length_if c cs word) here.0)
  | inr other ↦ elim (listing cs word) [
    | of_row n row at is listed ↦ of_row (suc n) row at is (ap (length_if c cs word) other.0 ∙ listed)
    | of_none none beside ↦ of_none (ap (length_if c cs word) other.0 ∙ none)
        (ap (λ (b : Bool). b || list_any (λ (c : ChannelRow). is_same_number c.word word) cs) other.0 ∙ beside)
  ]
]

-- ---- addresses

-- what lies alike has its channels at the same addresses
address_alike : {layout other : Layout} → LieAlike layout other → (kind : EndKind)
    → channel_address other kind ≡ channel_address layout kind
address_alike {layout} {other} alike (ends.FrameWord word) = same_address other layout word alike.origin
address_alike alike (ends.Parameter (pos j) element) = ap (λ (n : ℕ). (n + 4 * element) % 2 ^ 32) (alike.starts j)
address_alike alike (ends.Parameter (negsuc j) element) = refl
address_alike alike (ends.Link link) = refl

-- what began with the same length of an end agrees with the channel as well
agrees_too : {m : Contents} {cells : List (Option Channel)} {start other : Began} {e : End}
    → start.layout.lengths e.address ≡ other.layout.lengths e.address → LengthAgrees m cells start e
    → LengthAgrees m cells other e
agrees_too same (at_link k few is len) = at_link k few is (len ∙ same)
agrees_too same (at_channel c here len) = at_channel c here (len ∙ same)

pub among_map : {A B : Type 0} (f : A → B) (xs : List A) (y : B) → IsAmong y (map f xs)
    → (x : A) × IsAmong x xs × (f x ≡ y)
among_map f [] y among = absurd among
among_map f (x ∷ xs) y (inl here) = (x, inl refl, here)
among_map f (x ∷ xs) y (inr there) = let a = among_map f xs y there in (a.0, inr a.1, a.2)

-- ---- the ends of a branch

module _ {m : Contents} {found : Found} {layout : Layout} {base : ℕ} {addresses : List (Option ℕ)} {rest : Holding}
    {memory : Memory} {depth : ℤ} {workspace : ℕ}
    (can : CanStart m found layout base addresses rest memory depth workspace) {own : Holding} {outer : Layout}
    {before : Memory} (named : HoldsNamed m own (scope_of m found.par.context outer) before)
    (alike : LieAlike outer layout) (start : Began) (known : outer.lengths ≡ start.layout.lengths)
    (cells : List (Option Channel))
    (agree : (e : End) → has_end own e ≡ true → LengthAgrees m cells start e)
    (made : (n : ℕ) (row : ChannelRow) → slice_get found.par.channels n ≡ Some row
    → (c : Channel) × (slice_get cells (cell_of (channel_address outer (ends.FrameWord row.word))) ≡ Some (Some c))
    × (c.length ≡ row.length)) where
  abbrev par : Par
  par = found.par

  abbrev Agrees : EndKind → Direction → Type 0
  Agrees kind direction = LengthAgrees m cells (began_by m found layout)
      (record { address = channel_address layout kind; direction = direction })

  -- an end that its opener has for good
  of_context : (kind : EndKind) (direction : Direction)
      → rights.has_end m par.context (record { kind = kind; direction = direction }) ≡ true
      → message_length m par.context kind ≡ Some (layout.lengths (channel_address layout kind)) → Agrees kind direction
  of_context kind direction has len =
      let at = address_alike alike kind in
      let both : Some (outer.lengths (channel_address outer kind)) ≡ Some (layout.lengths (channel_address layout kind))
      = sym (named.lengths kind direction has) ∙ len in
      let same : outer.lengths (channel_address outer kind) ≡ layout.lengths (channel_address layout kind) = cc in
      let mine : start.layout.lengths (channel_address layout kind) ≡ layout.lengths (channel_address layout kind) =
      ap (λ (f : ℕ → ℕ). f (channel_address layout kind)) (sym known) ∙ ap outer.lengths at ∙ same in
      agrees_too {start = start} {other = began_by m found layout} mine
      (subst (λ (a : ℕ). LengthAgrees m cells start (record { address = a; direction = direction })) (sym at)
      (agree (record { address = channel_address outer kind; direction = direction })
      (named.ends kind direction has)))

  -- an end of one of the PAR's channels
  of_channel : (word : ℤ) (direction : Direction) (n : ℕ) (row : ChannelRow) → slice_get par.channels n ≡ Some row
      → row.word ≡ word → row.length ≡ layout.lengths (channel_address layout (ends.FrameWord word))
      → Agrees (ends.FrameWord word) direction
  of_channel word direction n row at is len =
      let c = made n row at in
      let there : channel_address outer (ends.FrameWord row.word) ≡ channel_address layout (ends.FrameWord word) =
      ap (λ (k : ℤ). channel_address outer (ends.FrameWord k)) is
      ∙ sym (address_alike alike (ends.FrameWord word)) in
      at_channel c.0 (subst (λ (a : ℕ). slice_get cells (cell_of a) ≡ Some (Some c.0)) there c.1) (c.2 ∙ len)

  -- the length of the messages of a word, by what the row lists
  abbrev length_by : ℤ → Option ℕ → Option ℕ
  length_by word o = elim o as (λ o. Option ℕ) [
    | Some len ↦ Some len
    | None ↦ message_length m par.context (ends.FrameWord word)
  ]

  of_kind : (kind : EndKind) (direction : Direction)
      → (rights.has_end m par.context (record { kind = kind; direction = direction }) || is_own_end par kind) ≡ true
      → length_left m par par.context kind ≡ Some (layout.lengths (channel_address layout kind))
      → Agrees kind direction
  of_kind (ends.FrameWord word) direction has len = elim (listing par.channels word) [
    | of_row n row at is listed ↦
        let both : Some row.length ≡ Some (layout.lengths (channel_address layout (ends.FrameWord word))) =
        sym (ap (length_by word) listed) ∙ len in
        of_channel word direction n row at is (let same : row.length
        ≡ layout.lengths (channel_address layout (ends.FrameWord word)) = cc in same)
    | of_none none beside ↦ elim (or_cases _ (is_own_end par (ends.FrameWord word)) has) [
      | inl mine ↦ of_context (ends.FrameWord word) direction mine (sym (ap (length_by word) none) ∙ len)
      | inr own ↦ let no' : false ≡ true = sym beside ∙ own in absurd (cc)
    ]
  ]
  of_kind (ends.Parameter number element) direction has len = elim (or_cases _ false has) [
    | inl mine ↦ of_context (ends.Parameter number element) direction mine len
    | inr own ↦ absurd (cc)
  ]
  of_kind (ends.Link link) direction has len = elim (or_cases _ false has) [
    | inl mine ↦ of_context (ends.Link link) direction mine len
    | inr own ↦ absurd (cc)
  ]

  -- each end that the branch holds
  pub branch_lengths : (n : ℕ) (e : End) → has_end (held_by_branch m found base addresses n) e ≡ true
      → LengthAgrees m cells (began_by m found layout) e
  branch_lengths n e has =
      let words = shares_are_words m found layout base addresses can.keeps can.is can.laid in
      let given = subst (λ (xs : List End). IsAmong e xs) words.ends
      (end_among (held_by_branch m found base addresses n) e has) in
      let r = among_map (end_at layout) found.branch.ends e given in
      let left = can.left.ends r.0 r.1 in
      subst (λ (e : End). LengthAgrees m cells (began_by m found layout) e) r.2
      (of_kind r.0.kind r.0.direction (and_parts _ _ left).0 (can.named.lengths r.0.kind r.0.direction left))
