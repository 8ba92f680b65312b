-- Before the first start a PAR's starter has all but the block and the channels, of which it has both ends.
use Rattle.std.proofs.Common.{◌≡◌, ℕ, ◌+◌, ◌<◌, ◌&&◌, ◌||◌, not, Bool, true, false, cond, ◌⊎◌, inl, inr, ℤ}
use Rattle.std.proofs.Common.{if◌then◌else◌, List, [], ◌∷◌, ◌++◌, length, map, Option, Some, None, refl, sym, ap, ◌∙◌}
use Rattle.std.proofs.Common.{subst, arith, eqb-true}
use Rattle.std.proofs.lemmas.Bool.{eq-eqb, or_cases, or_left, or_right, and_parts, false_from_ne_true, not-true}
use Rattle.std.specs.Prelude.{option_map, take, ◌==◌, find, int_le}
use Rattle.std.specs.List.{list_any}
use Rattle.module_format.specs.declared.rows.ChannelRow.{ChannelRow}
use Rattle.module_format.specs.declared.rows.Direction.{Direction}
use Rattle.module_format.specs.declared.rows.Direction.TheVariants.{In, Out}
use Rattle.module_format.specs.declared.rows.EndKind.{EndKind}
use Rattle.module_format.specs.declared.rows.EndKind.TheVariants as ends
use Rattle.module_format.specs.declared.rows.EndKind.TheVariants.{FrameWord}
use Rattle.module_format.specs.declared.rows.EndRow.{EndRow}
use Rattle.module_format.specs.declared.rows.Parameter.{Parameter}
use Rattle.module_format.specs.declared.rows.ParameterKind.{ParameterKind}
use Rattle.module_format.specs.declared.rows.ParameterKind.TheVariants.{Value, ReadRegion, WrittenRegion, Channels}
use Rattle.module_format.specs.Contents.{Contents, Par, Branch}
use Rattle.certificate.specs.Rights as rights
use Rattle.certificate.specs.Rights.{listed_length}
use Rattle.machine_state.specs.declared.holding.End.{End}
use Rattle.machine_state.specs.BranchShares.{frame_address}
use Rattle.machine_state.specs.Holding.{Holding, has_end}
use Rattle.machine_state.specs.Memory.{Memory, place_of}
use Rattle.machine_state.specs.Ownership.{IsAmong, to_write, to_read, to_use}
use Rattle.machine_state.specs.Spans.{less, writes_place, is_among_ends}
use Rattle.machine_state.specs.StartPlans.{hidden, with_ends, channel_addresses}
use Rattle.machine_state.specs.World.{constants_start}
use Rattle.machine_state.proofs.Among.{among_left, among_right, among_more, filter_keeps}
use Rattle.machine_state.proofs.Shares.{left_claims, end_among, end_held}
use Rattle.states.specs.State.{is_same_number}
use Rattle.rulings.specs.Channels.{message_length}
use Rattle.rulings.specs.Meaning.{Layout, HasFrame, words_left}
use Rattle.rulings.specs.Reach as reach
use Rattle.rulings.specs.Regions.{Scope, scope_of, scope_left, parameter_used, IsByteOf, IsHeldRegion, IsNamed}
use Rattle.rulings.specs.Regions.{HoldsNamed}
use Rattle.rulings.specs.Regions.{IsWrittenAt, IsNamedAt, HasConstants, channel_address, length_left}
use Rattle.rulings.specs.Remaining.{some_started, is_hidden, is_channel_word, is_own_end, kind_left}
use Rattle.rulings.specs.Remaining.{parameter_given_to_write, parameter_given_to_read}
use Rattle.rulings.proofs.Combining.{readable_byte, written_readable}
use Rattle.rulings.proofs.Lending.{same_word, number_means}
use Rattle.rulings.proofs.Regions.{bytes_read, bytes_written, byte_of_own}
use Rattle.rulings.proofs.Words.{word_test, same_word_by}
use Rattle.share_laws.specs.Opening.{lengths_with, layout_with, held_by_opener, CanOpen, OpenersHoldTheRest}
use Rattle.share_laws.proofs.HiddenWords.{channel_free, hidden_byte, hidden_word, channel_at, one_channel}
use Rattle.share_laws.proofs.HiddenWords.{channel_is_word}
use Rattle.share_laws.proofs.LeftBytes.{byte_of, word_of_bytes, word_to_read, less_written}
use Rattle.share_laws.proofs.LeftBytes.{less_read, less_inside}
use Rattle.share_laws.proofs.LeftParameters.{left_by}
use Rattle.share_laws.proofs.RowEnds.{listed_among}

-- ---- no branch is started

-- of no branches none passes a test
pub none_started : (par : Par) (test : Branch → Bool) → some_started par 0 test ≡ false
none_started par test = on par.branches
  where
    on : (bs : List Branch) → list_any test (take 0 bs) ≡ false
    on [] = refl
    on (b ∷ bs) = refl

-- what no branch was given is whole
left_whole : (w r : Bool) (kind : ParameterKind) → w ≡ false → r ≡ false → left_by w r kind ≡ kind
left_whole true r kind p q = absurd (cc)
left_whole false true kind p q = absurd (cc)
left_whole false false kind p q = refl

-- so before the first start
kind_whole : (par : Par) (j : ℕ) (kind : ParameterKind) → kind_left par 0 j kind ≡ kind
kind_whole par j kind = left_whole (parameter_given_to_write par 0 j) (parameter_given_to_read par 0 j) kind
    (none_started par (λ b. reach.is_listed b.written_parameters j))
    (none_started par (λ b. reach.is_listed b.read_parameters j))

-- ---- both ends of each channel

-- ends that were held are held still
ends_more : (addresses : List ℕ) (held : List End) (e : End) → IsAmong e held → IsAmong e (with_ends addresses held)
ends_more [] held e among = among
ends_more (a ∷ addresses) held e among =
    on (λ more there. ends_more addresses more e there) (is_among_ends held (record { address = a; direction = In }))
  where
    on : ((more : List End) → IsAmong e more → IsAmong e (with_ends addresses more)) → (b : Bool)
        → IsAmong e (with_ends addresses (if b then held
        else held ++ record { address = a; direction = In } ∷ record { address = a; direction = Out } ∷ []))
    on further true = further held among
    on further false = further (held ++ record { address = a; direction = In } ∷ record {
      address = a;
      direction = Out;
    } ∷ []) (among_left e held (record { address = a; direction = In } ∷ record {
      address = a;
      direction = Out;
    } ∷ []) among)

-- if one end of each of these is held, both are
abbrev HaveBoth : List ℕ → List End → Type 0
HaveBoth addresses held = (a : ℕ) → IsAmong a addresses → IsAmong (record { address = a; direction = In }) held
    → IsAmong (record { address = a; direction = Out }) held

-- both ends of each channel are held
both_ends : (addresses : List ℕ) (held : List End) → HaveBoth addresses held → (a : ℕ) (direction : Direction)
    → IsAmong a addresses → IsAmong (record { address = a; direction = direction }) (with_ends addresses held)
both_ends [] held both a direction among = absurd among
both_ends (x ∷ addresses) held both a direction among =
    on (λ more kept there. both_ends addresses more kept a direction there)
    (is_among_ends held (record { address = x; direction = In })) refl among
  where
    both_more : HaveBoth addresses (held ++ record { address = x; direction = In } ∷ record {
      address = x;
      direction = Out;
    } ∷ [])
    both_more b there input = elim (among_more (record { address = b; direction = In }) held (record {
      address = x;
      direction = In;
    } ∷ record { address = x; direction = Out } ∷ []) input) [
      | inl old ↦ among_left _ held _ (both b (inr there) old)
      | inr (inl first) ↦ among_right _ held _ (inr (inl (ap (λ (n : ℕ).
          let e : End = record { address = n; direction = Out } in e) (ap (λ (e : End). e.address) first))))
      | inr (inr (inl second)) ↦ among_right _ held _ (inr (inl (ap (λ (n : ℕ).
          let e : End = record { address = n; direction = Out } in e) (ap (λ (e : End). e.address) second))))
      | inr (inr (inr never)) ↦ absurd never
    ]

    direction_of : (d : Direction) (xs : List End) → IsAmong (record { address = x; direction = In }) xs
        → IsAmong (record { address = x; direction = Out }) xs → IsAmong (record { address = x; direction = d }) xs
    direction_of In xs p q = p
    direction_of Out xs p q = q

    on : ((more : List End) → HaveBoth addresses more → IsAmong a addresses
        → IsAmong (record { address = a; direction = direction }) (with_ends addresses more)) → (b : Bool)
        → is_among_ends held (record { address = x; direction = In }) ≡ b → (x ≡ a) ⊎ IsAmong a addresses
        → IsAmong (record { address = a; direction = direction }) (with_ends addresses (if b then held
        else held ++ record { address = x; direction = In } ∷ record { address = x; direction = Out } ∷ []))
    on further true e (inr there) = further held (λ b among. both b (inr among)) there
    on further false e (inr there) = further (held ++ record { address = x; direction = In } ∷ record {
      address = x;
      direction = Out;
    } ∷ []) both_more there
    on further true e (inl here) =
        let input = listed_among held (record { address = x; direction = In }) e in
        subst (λ (n : ℕ). IsAmong (record { address = n; direction = direction }) (with_ends addresses held)) here
        (ends_more addresses held (record { address = x; direction = direction })
        (direction_of direction held input (both x (inl refl) input)))
    on further false e (inl here) =
        subst (λ (n : ℕ). IsAmong (record { address = n; direction = direction }) (with_ends addresses
        (held ++ record { address = x; direction = In } ∷ record { address = x; direction = Out } ∷ []))) here
        (ends_more addresses (held ++ record { address = x; direction = In } ∷ record {
          address = x;
          direction = Out;
        } ∷ []) (record { address = x; direction = direction })
        (among_right (record { address = x; direction = direction }) held (record {
          address = x;
          direction = In;
        } ∷ record { address = x; direction = Out } ∷ []) (direction_of direction (record {
          address = x;
          direction = In;
        } ∷ record { address = x; direction = Out } ∷ []) (inl refl) (inr (inl refl)))))

-- ---- lengths

-- a channel that has another address says nothing
lengths_elsewhere : (layout : Layout) (cs : List ChannelRow) (a : ℕ)
    → ((c : ChannelRow) → IsAmong c cs → channel_address layout (FrameWord c.word) ≡ a → ⊥)
    → lengths_with layout cs a ≡ layout.lengths a
lengths_elsewhere layout [] a never = refl
lengths_elsewhere layout (c ∷ cs) a never =
    ap (λ (b : Bool). if b then c.length else lengths_with layout cs a)
    (false_from_ne_true (channel_address layout (FrameWord c.word) == a)
    (λ h. never c (inl refl) (eqb-true (channel_address layout (FrameWord c.word)) a h)))
    ∙ lengths_elsewhere layout cs a (λ d among. never d (inr among))

-- a channel's word has the length that the row lists
lengths_listed : (layout : Layout) (cs : List ChannelRow) (word : ℤ) (len : ℕ) → listed_length cs word ≡ Some len
    → ((c : ChannelRow) → IsAmong c cs
    → channel_address layout (FrameWord c.word) ≡ channel_address layout (FrameWord word) → c.word ≡ word)
    → lengths_with layout cs (channel_address layout (FrameWord word)) ≡ len
lengths_listed layout [] word len h once = absurd (cc)
lengths_listed layout (c ∷ cs) word len h once = elim (word_test c.word word) [
  | inl t ↦
      let first : Some c.length ≡ Some len = sym (by_test (is_same_number c.word word) t.0) ∙ h in
      let is : c.length ≡ len = cc in
      ap (λ (b : Bool). if b then c.length else lengths_with layout cs (channel_address layout (FrameWord word)))
      (eq-eqb (channel_address layout (FrameWord c.word)) (channel_address layout (FrameWord word))
      (ap (λ (z : ℤ). channel_address layout (FrameWord z)) t.1)) ∙ is
  | inr t ↦
      ap (λ (b : Bool). if b then c.length else lengths_with layout cs (channel_address layout (FrameWord word)))
      (false_from_ne_true (channel_address layout (FrameWord c.word) == channel_address layout (FrameWord word))
      (λ e. t.1 (once c (inl refl) (eqb-true (channel_address layout (FrameWord c.word))
      (channel_address layout (FrameWord word)) e))))
      ∙ lengths_listed layout cs word len (sym (not_here (is_same_number c.word word) t.0) ∙ h)
      (λ d among. once d (inr among))
]
  where
    by_test : (b : Bool) → b ≡ true
        → option_map (λ (channel : ChannelRow). channel.length) (cond b (Some c)
        (find (λ channel. int_le channel.word word && int_le word channel.word) cs)) ≡ Some c.length
    by_test true e = refl
    by_test false e = absurd (cc)

    not_here : (b : Bool) → b ≡ false
        → option_map (λ (channel : ChannelRow). channel.length) (cond b (Some c)
        (find (λ channel. int_le channel.word word && int_le word channel.word) cs)) ≡ listed_length cs word
    not_here true e = absurd (cc)
    not_here false e = refl

-- a word that is no channel's has no length there, and a channel's has one
listed_channel : (cs : List ChannelRow) (word : ℤ) (len : ℕ) → listed_length cs word ≡ Some len
    → list_any (λ (c : ChannelRow). is_same_number c.word word) cs ≡ true
listed_channel [] word len h = absurd (cc)
listed_channel (c ∷ cs) word len h = elim (word_test c.word word) [
  | inl t ↦ or_left _ _ t.0
  | inr t ↦ or_right (is_same_number c.word word) _
      (listed_channel cs word len (sym (not_here (is_same_number c.word word) t.0) ∙ h))
]
  where
    not_here : (b : Bool) → b ≡ false
        → option_map (λ (channel : ChannelRow). channel.length) (cond b (Some c)
        (find (λ channel. int_le channel.word word && int_le word channel.word) cs)) ≡ listed_length cs word
    not_here true e = absurd (cc)
    not_here false e = refl

-- the word of a channel has a length in the row
channel_listed : (cs : List ChannelRow) (word : ℤ) → listed_length cs word ≡ None
    → list_any (λ (c : ChannelRow). is_same_number c.word word) cs ≡ true → ⊥
channel_listed [] word h any = absurd (cc)
channel_listed (c ∷ cs) word h any = elim (word_test c.word word) [
  | inl t ↦ absurd (by_test (is_same_number c.word word) t.0 h)
  | inr t ↦ elim (or_cases (is_same_number c.word word) _ any) [
    | inl here ↦ let no' : false ≡ true = sym t.0 ∙ here in cc
    | inr there ↦ channel_listed cs word (sym (not_here (is_same_number c.word word) t.0) ∙ h) there
  ]
]
  where
    by_test : (b : Bool) → b ≡ true
        → option_map (λ (channel : ChannelRow). channel.length) (cond b (Some c)
        (find (λ channel. int_le channel.word word && int_le word channel.word) cs)) ≡ None → ⊥
    by_test true e h = cc
    by_test false e h = cc

    not_here : (b : Bool) → b ≡ false
        → option_map (λ (channel : ChannelRow). channel.length) (cond b (Some c)
        (find (λ channel. int_le channel.word word && int_le word channel.word) cs)) ≡ listed_length cs word
    not_here true e = absurd (cc)
    not_here false e = refl

module _ (m : Contents) (row : ℕ) (par : Par) (layout : Layout) (base : ℕ) (h : Holding) (memory : Memory)
    (depth : ℤ) (workspace : ℕ) (o : CanOpen m row par layout base h memory depth workspace) where
  abbrev words_rest : Holding
  words_rest = less (length memory) h (hidden base par)

  abbrev rest : Holding
  rest = held_by_opener par base (length memory) h

  abbrev before : Scope
  before = scope_of m par.context layout

  abbrev after : Scope
  after = scope_left m par par.context 0 (layout_with layout par)

  -- ---- words

  record IsShown (k : ℤ) (rights : Bool) : Type 0 where
    has : rights ≡ true
    shown : is_hidden par k ≡ false

  -- a word that is left to write was the context's, and is not hidden
  left_word : (k : ℤ) → after.words.writes k ≡ true → IsShown k (rights.may_write_word m par.context k)
  left_word k t =
      let a = and_parts (rights.may_write_word m par.context k && not (is_hidden par k)) _ t in
      let b = and_parts (rights.may_write_word m par.context k) (not (is_hidden par k)) a.0 in
      record { has = b.0; shown = not-true _ b.1 }

  -- so one that is left to read
  left_to_read : (k : ℤ) → after.words.reads k ≡ true → IsShown k (rights.may_read_word m par.context k)
  left_to_read k t =
      let a = and_parts (rights.may_read_word m par.context k && not (is_hidden par k)) _ t in
      let b = and_parts (rights.may_read_word m par.context k) (not (is_hidden par k)) a.0 in
      record { has = b.0; shown = not-true _ b.1 }

  -- a byte of a word that is not hidden is none that is taken
  word_shown : (k : ℤ) (x : ℕ) → is_hidden par k ≡ false → IsByteOf layout.origin k x
      → writes_place (hidden base par) x ≡ false
  word_shown k x shown b = false_from_ne_true _ (λ w.
      let hides = hidden_byte m row par layout base h memory depth workspace o x w in
      let same = same_word layout.origin hides.0 k x hides.2 b in
      let no' : true ≡ false = sym hides.1 ∙ (ap (is_hidden par) same ∙ shown) in cc)

  -- the starter has its frame
  opener_frame : HasFrame rest (length memory) (words_left m par par.context 0) layout.origin depth workspace
  opener_frame = record {
    small = o.frame.small;
    from_start = o.frame.from_start;
    to_end = o.frame.to_end;
    own = λ k t.
        let l = left_word k t in
        let w = o.frame.own k l.has in
        record {
          place = w.place;
          is = w.is;
          inside = w.inside;
          mine = word_of_bytes rest w.place (λ i low. less_written (length memory) h (hidden base par) (w.place + i)
              (let inside = w.inside in omega arith) (bytes_written h w.place w.mine i low)
              (word_shown k (w.place + i) l.shown (byte_of layout.origin k w.place i w.is low)) refl);
        };
    readable = λ k t.
        let l = left_to_read k t in
        let w = o.frame.readable k l.has in
        record {
          place = w.place;
          is = w.is;
          inside = w.inside;
          readable = word_to_read rest w.place (λ i low. less_read (length memory) h (hidden base par) (w.place + i)
              (let inside = w.inside in omega arith) (bytes_read h w.place w.readable i low)
              (word_shown k (w.place + i) l.shown (byte_of layout.origin k w.place i w.is low)));
        };
    start = o.frame.start;
  }

  -- ---- what parameters name

  -- a byte of a region is none of a hidden word
  region_shown : {may_use : ℕ → Bool} (place size i : ℕ) (lo hi : ℤ)
      → IsHeldRegion m may_use before memory place size lo hi → i < size
      → writes_place (hidden base par) (place + i) ≡ false
  region_shown place size i lo hi region low = false_from_ne_true _ (λ w.
      let hides = hidden_byte m row par layout base h memory depth workspace o (place + i) w in
      region.beside hides.0 i (written_readable m par.context hides.0 (o.own hides.0 hides.1)) low hides.2)

  -- what a parameter names is held still
  opener_kind : (kind : ParameterKind) (start : ℕ) → IsNamed m h before memory kind start
      → IsNamed m rest after memory kind start
  opener_kind (Value lo hi) start named = tt
  opener_kind (ReadRegion size lo hi) start r = record {
    aligned = r.aligned;
    whole = r.whole;
    held = λ i low. less_read (length memory) h (hidden base par) (place_of start + i)
        (o.inside (place_of start + i) (r.held i low)) (r.held i low)
        (region_shown (place_of start) size i lo hi r low);
    beside = λ k i t low b. r.beside k i (left_to_read k t).has low b;
    numbers = λ i fits. number_means (r.numbers i fits);
  }
  opener_kind (WrittenRegion size lo hi) start r = record {
    aligned = r.aligned;
    whole = r.whole;
    held = λ i low. less_written (length memory) h (hidden base par) (place_of start + i)
        (o.inside (place_of start + i) (readable_byte h (place_of start + i) (r.held i low))) (r.held i low)
        (region_shown (place_of start) size i lo hi r low) refl;
    beside = λ k i t low b. r.beside k i (left_to_read k t).has low b;
    numbers = λ i fits. number_means (r.numbers i fits);
  }
  opener_kind (Channels count len ends) start named = named

  -- a parameter is what it was
  record IsSame (j : ℕ) (p : Parameter) : Type 0 where
    q : Parameter
    there : before.parameters j ≡ Some q
    kind : q.kind ≡ p.kind

  -- the parameters are those of the context
  was : (j : ℕ) (p : Parameter) → after.parameters j ≡ Some p → IsSame j p
  was j p there = on (parameter_used m par.context j) refl there
    where
      on : (q : Option Parameter) → parameter_used m par.context j ≡ q
          → option_map (λ (p : Parameter). record p { kind = kind_left par 0 j p.kind }) q ≡ Some p → IsSame j p
      on None e h = absurd (cc)
      on (Some q) e h =
          let is : (record q { kind = kind_left par 0 j q.kind }) ≡ p = cc in
          record {
            q = q;
            there = e;
            kind = sym (kind_whole par j q.kind) ∙ ap (λ (x : Parameter). x.kind) is;
          }

  -- so of each parameter
  opener_each : (j : ℕ) (p : Parameter) → after.parameters j ≡ Some p
      → IsNamed m rest after memory p.kind (layout.starts j)
  opener_each j p there =
      let s = was j p there in
      opener_kind p.kind (layout.starts j) (subst (λ (k : ParameterKind). IsNamed m h before memory k (layout.starts j))
      s.kind (o.named.each j s.q s.there))

  -- and their regions are apart as before
  opener_apart : (j k : ℕ) (p q : Parameter) → after.parameters j ≡ Some p → after.parameters k ≡ Some q
      → (j ≡ k → ⊥) → (place : ℕ) → IsWrittenAt p.kind (layout.starts j) place
      → IsNamedAt q.kind (layout.starts k) place → ⊥
  opener_apart j k p q here there differ place written named =
      let a = was j p here in
      let b = was k q there in
      o.named.apart j k a.q b.q a.there b.there differ place
      (subst (λ (x : ParameterKind). IsWrittenAt x (layout.starts j) place) (sym a.kind) written)
      (subst (λ (x : ParameterKind). IsNamedAt x (layout.starts k) place) (sym b.kind) named)

  -- the constants are there
  opener_constants : HasConstants m rest memory
  opener_constants = record {
    readable = λ i low. less_read (length memory) h (hidden base par) (constants_start m + i)
        (o.inside (constants_start m + i) (o.named.constants.readable i low)) (o.named.constants.readable i low)
        (false_from_ne_true _ (λ w.
        let hides = hidden_byte m row par layout base h memory depth workspace o (constants_start m + i) w in
        let low_data = o.named.constants.behind (constants_start m + i)
        (byte_of_own h (length memory) layout.origin hides.0 (constants_start m + i)
        (hidden_word m row par layout base h memory depth workspace o hides.0 hides.1) hides.2) in
        omega (arith, low_data)));
    bytes = o.named.constants.bytes;
    behind = λ place own. o.named.constants.behind place
        (left_claims (length memory) h (hidden base par) (to_write place) own);
  }

  -- ---- ends

  -- an end that is left: one of the context, which is none of a channel of the PAR, or one of these
  data IsEnd (kind : EndKind) (direction : Direction) : Type 0 where
    of_context : before.ends kind direction ≡ true
        → ((k : ℤ) → is_channel_word par k ≡ true → channel_address layout (FrameWord k) ≡ channel_address layout kind
        → ⊥) → IsEnd kind direction
    of_channel : (k : ℤ) → is_channel_word par k ≡ true → kind ≡ FrameWord k → IsEnd kind direction

  -- each end that is left is of one kind
  left_end : (kind : EndKind) (direction : Direction) → after.ends kind direction ≡ true → IsEnd kind direction
  left_end kind direction t =
      let e : EndRow = record { kind = kind; direction = direction } in
      let a = and_parts (rights.has_end m par.context e || is_own_end par kind) _ t in
      elim (or_cases (rights.has_end m par.context e) (is_own_end par kind) a.0) [
        | inl has ↦ of_context has (λ k is same.
            let held = o.named.ends kind direction has in
            let free = channel_free m row par layout base h memory depth workspace o k direction is in
            let no' : false ≡ true = sym free ∙ (ap (λ (n : ℕ).
            has_end h (record { address = n; direction = direction })) same ∙ held) in cc)
        | inr mine ↦ own_end kind mine
      ]
    where
      own_end : (kind : EndKind) → is_own_end par kind ≡ true → IsEnd kind direction
      own_end (ends.FrameWord word) mine = of_channel word mine refl
      own_end (ends.Parameter number element) mine = absurd (cc)
      own_end (ends.Link link) mine = absurd (cc)

  -- no end of a channel of the PAR was held
  no_channel_end : HaveBoth (channel_addresses base par) words_rest.ends
  no_channel_end a among input = absurd (on par.channels (λ c there. there) among)
    where
      on : (cs : List ChannelRow) → ((c : ChannelRow) → IsAmong c cs → IsAmong c par.channels)
          → IsAmong a (map (λ (c : ChannelRow). frame_address base c.word) cs) → ⊥
      on [] all among = among
      on (c ∷ cs) all (inr there) = on cs (λ d later. all d (inr later)) there
      on (c ∷ cs) all (inl here) =
          let is = channel_is_word m row par layout base h memory depth workspace o c (all c (inl refl)) in
          let held = left_claims (length memory) h (hidden base par) (to_use (record { address = a; direction = In }))
          (end_held words_rest (record { address = a; direction = In }) input) in
          let free = channel_free m row par layout base h memory depth workspace o c.word In is in
          let at : channel_address layout (FrameWord c.word) ≡ a =
          sym (channel_at m row par layout base h memory depth workspace o c.word is) ∙ here in
          let no' : false ≡ true = sym free ∙ (ap (λ (n : ℕ). has_end h (record { address = n; direction = In })) at
          ∙ held) in
          cc

  -- none of the ends is taken with the hidden words
  whole_ends : (e : End) → IsAmong e h.ends → IsAmong e words_rest.ends
  unfolding less
  whole_ends e among = filter_keeps (λ end. not (is_among_ends [] end)) h.ends e among refl

  -- a channel's address is one of the row's
  address_among : (cs : List ChannelRow) (k : ℤ) → list_any (λ (c : ChannelRow). is_same_number c.word k) cs ≡ true
      → IsAmong (frame_address base k) (map (λ (c : ChannelRow). frame_address base c.word) cs)
  address_among [] k h = absurd (cc)
  address_among (c ∷ cs) k h = elim (or_cases (is_same_number c.word k) _ h) [
    | inl here ↦ inl (ap (frame_address base) (same_word_by c.word k here))
    | inr there ↦ inr (address_among cs k there)
  ]

  -- the ends that are left are held
  opener_ends : (kind : EndKind) (direction : Direction) → after.ends kind direction ≡ true
      → has_end rest (record { address = channel_address layout kind; direction = direction }) ≡ true
  opener_ends kind direction t = on (left_end kind direction t)
    where
      on : IsEnd kind direction
          → has_end rest (record { address = channel_address layout kind; direction = direction }) ≡ true
      on (of_context has beside) =
          let e : End = record { address = channel_address layout kind; direction = direction } in
          end_held rest e (ends_more (channel_addresses base par) words_rest.ends e
          (whole_ends e (end_among h e (o.named.ends kind direction has))))
      on (of_channel k is same) =
          let e : End = record { address = channel_address layout kind; direction = direction } in
          end_held rest e (subst (λ (n : ℕ). IsAmong (record { address = n; direction = direction }) rest.ends)
          (channel_at m row par layout base h memory depth workspace o k is
          ∙ ap (channel_address layout) (sym same))
          (both_ends (channel_addresses base par) words_rest.ends no_channel_end (frame_address base k) direction
          (address_among par.channels k is)))

  -- messages are as long as the row or the context says
  opener_lengths : (kind : EndKind) (direction : Direction) → after.ends kind direction ≡ true
      → length_left m par par.context kind ≡ Some (lengths_with layout par.channels (channel_address layout kind))
  opener_lengths kind direction t = on (left_end kind direction t)
    where
      -- where the row lists no length for the word, it is the context's
      unlisted : (word : ℤ) (o : Option ℕ) → listed_length par.channels word ≡ o
          → (o ≡ None → message_length m par.context (FrameWord word)
          ≡ Some (lengths_with layout par.channels (channel_address layout (FrameWord word))))
          → ((len : ℕ) → o ≡ Some len
          → lengths_with layout par.channels (channel_address layout (FrameWord word)) ≡ len)
          → (elim o as (λ o. Option ℕ) [
            | Some len ↦ Some len
            | None ↦ message_length m par.context (FrameWord word)
          ]) ≡ Some (lengths_with layout par.channels (channel_address layout (FrameWord word)))
      unlisted word None e none some = none refl
      unlisted word (Some len) e none some = ap (λ (n : ℕ). Some n) (sym (some len refl))

      once : (word : ℤ) → is_channel_word par word ≡ true → (c : ChannelRow) → IsAmong c par.channels
          → channel_address layout (FrameWord c.word) ≡ channel_address layout (FrameWord word) → c.word ≡ word
      once word is c among same = one_channel m row par layout base h memory depth workspace o c.word word
          (channel_is_word m row par layout base h memory depth workspace o c among) is same

      of_word : (word : ℤ) → is_channel_word par word ≡ true
          → length_left m par par.context (FrameWord word)
          ≡ Some (lengths_with layout par.channels (channel_address layout (FrameWord word)))
      of_word word is = unlisted word (listed_length par.channels word) refl
          (λ none. absurd (channel_listed par.channels word none is))
          (λ len listed. lengths_listed layout par.channels word len listed (once word is))

      elsewhere : before.ends kind direction ≡ true
          → ((k : ℤ) → is_channel_word par k ≡ true → channel_address layout (FrameWord k) ≡ channel_address layout kind
          → ⊥) → message_length m par.context kind ≡ Some (lengths_with layout par.channels (channel_address layout
          kind))
      elsewhere has beside = o.named.lengths kind direction has
          ∙ ap (λ (n : ℕ). Some n) (sym (lengths_elsewhere layout par.channels (channel_address layout kind)
          (λ c among. beside c.word (channel_is_word m row par layout base h memory depth workspace o c among))))

      by_kind : (k : EndKind) → kind ≡ k → before.ends kind direction ≡ true
          → ((j : ℤ) → is_channel_word par j ≡ true → channel_address layout (FrameWord j) ≡ channel_address layout kind
          → ⊥) → length_left m par par.context k ≡ Some (lengths_with layout par.channels (channel_address layout k))
      by_kind (ends.FrameWord word) e has beside = unlisted word (listed_length par.channels word) refl
          (λ none. subst (λ (x : EndKind). message_length m par.context x
          ≡ Some (lengths_with layout par.channels (channel_address layout x))) e (elsewhere has beside))
          (λ len listed. absurd (beside word (listed_channel par.channels word len listed)
          (ap (channel_address layout) (sym e))))
      by_kind (ends.Parameter number element) e has beside = subst (λ (x : EndKind). message_length m par.context x
          ≡ Some (lengths_with layout par.channels (channel_address layout x))) e (elsewhere has beside)
      by_kind (ends.Link link) e has beside = subst (λ (x : EndKind). message_length m par.context x
          ≡ Some (lengths_with layout par.channels (channel_address layout x))) e (elsewhere has beside)

      on : IsEnd kind direction
          → length_left m par par.context kind ≡ Some (lengths_with layout par.channels (channel_address layout kind))
      on (of_context has beside) = by_kind kind refl has beside
      on (of_channel k is same) = subst (λ (x : EndKind). length_left m par par.context x
          ≡ Some (lengths_with layout par.channels (channel_address layout x))) (sym same) (of_word k is)

  -- ends with one address are of one channel
  opener_differ : (a b : EndKind) (direction : Direction) → after.ends a direction ≡ true
      → after.ends b direction ≡ true → channel_address layout a ≡ channel_address layout b → a ≡ b
  opener_differ a b direction t u same = on (left_end a direction t) (left_end b direction u)
    where
      on : IsEnd a direction → IsEnd b direction → a ≡ b
      on (of_context p x) (of_context q y) = o.named.differ a b direction p q same
      on (of_context p x) (of_channel k is e) =
          absurd (x k is (ap (channel_address layout) (sym e) ∙ sym same))
      on (of_channel k is e) (of_context q y) = absurd (y k is (ap (channel_address layout) (sym e) ∙ same))
      on (of_channel j is e) (of_channel k there f) = e ∙ ap ends.FrameWord
          (one_channel m row par layout base h memory depth workspace o j k is there
          (ap (channel_address layout) (sym e) ∙ same ∙ ap (channel_address layout) f)) ∙ sym f

  -- so all that is left is held
  opener_named : HoldsNamed m rest after memory
  opener_named = record {
    each = opener_each;
    apart = opener_apart;
    constants = opener_constants;
    bytes = record {
      each = λ place b own found. o.named.bytes.each place b
          (left_claims (length memory) h (hidden base par) (to_read place) own) found;
    };
    even = o.named.even;
    ends = opener_ends;
    back = o.named.back;
    lengths = opener_lengths;
    differ = opener_differ;
  }

-- the frame and what is left, in memory
pub openers_hold_the_rest : OpenersHoldTheRest
openers_hold_the_rest m row par layout base h memory depth workspace o = record {
  frame = opener_frame m row par layout base h memory depth workspace o;
  named = opener_named m row par layout base h memory depth workspace o;
  inside = λ x own. less_inside (length memory) h (hidden base par) x own;
}
