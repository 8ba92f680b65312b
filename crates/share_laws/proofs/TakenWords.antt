-- Words that are taken: they are the process's own, what its scope names is still there, and other words stay.
use Rattle.std.proofs.Common.{◌≡◌, ℕ, ◌+◌, ◌<◌, ◌&&◌, not, true, false, inl, inr, ℤ, pos, negsuc, ◌+ℤ◌, List, [], ◌∷◌}
use Rattle.std.proofs.Common.{◌++◌, length, map, Option, None, FitsSigned, refl, sym, ◌∙◌, subst, arith}
use Rattle.std.proofs.lemmas.Int.{ints}
use Rattle.std.specs.Int.{w32}
use Rattle.std.proofs.lemmas.Bool.{or_right, and_parts, not-true}
use Rattle.module_format.specs.declared.rows.ChannelRow.{ChannelRow}
use Rattle.module_format.specs.Contents.{Contents, Par}
use Rattle.certificate.specs.Rights as rights
use Rattle.certificate.specs.Rights.{is_among}
use Rattle.machine_state.specs.BranchShares.{frame_address}
use Rattle.machine_state.specs.Holding.{Holding}
use Rattle.machine_state.specs.JoinLookups.{Found}
use Rattle.machine_state.specs.Joins.{without_words}
use Rattle.module_format.specs.Keeping as formats
use Rattle.machine_state.specs.Memory.{Memory, data_start, place_of, with_word, scheduling_word}
use Rattle.machine_state.specs.Ownership.{IsAmong}
use Rattle.machine_state.specs.StartPlans.{scheduling_addresses, block_addresses, channel_addresses}
use Rattle.machine_state.proofs.Reading.{length-with_word}
use Rattle.rulings.specs.Meaning.{Layout, IsOwnWord, HasFrame, words_in, words_left, frame_word}
use Rattle.rulings.specs.Regions.{Scope, KeepsMemory, scope_of, scope_left}
use Rattle.rulings.specs.Remaining.{is_hidden, word_given_to_write}
use Rattle.rulings.proofs.Combining.{same_frame, written_readable}
use Rattle.rulings.proofs.Regions.{keeps_all, keeps_more, write_keeps}
use Rattle.rulings.proofs.Words.{local_place, moved_workspace, word_elsewhere}
use Rattle.share_laws.specs.Opening.{CanOpen}
use Rattle.share_laws.specs.Shares.{IsBranch}
use Rattle.share_laws.specs.Starts.{CanStart, IsLeft}
use Rattle.share_laws.specs.Taking.{IsScheduling, memory_after_start, after_opening, StartTakes, StartsTakeTheirWords}
use Rattle.share_laws.specs.Taking.{OpeningTakes, OpeningsTakeTheirWords, StartsKeepOpeners}
use Rattle.share_laws.proofs.BranchHolds.{branches_hold_their_shares}
use Rattle.share_laws.proofs.HiddenWords.{hidden_place, second_place, block_hides, next_hides, channel_hides}
use Rattle.share_laws.proofs.HiddenWords.{channel_is_word, fits_words, hidden_word}
use Rattle.share_laws.proofs.LeftBytes.{left_readable}
use Rattle.share_laws.proofs.LeftParameters.{one_more}
use Rattle.share_laws.proofs.Rows.{workspace_fits}

-- the word at an address is one of the frame that a scope may write, and of some kind
pub record IsTaken (h : Holding) (scope : Scope) (size : ℕ) (is_such : ℤ → Type 0) (a : ℕ) : Type 0 where
  pub k : ℤ
  pub writes : scope.words.writes k ≡ true
  pub word : IsOwnWord h size scope.layout.origin k
  pub place : place_of a ≡ word.place
  pub such : is_such k

module _ (m : Contents) (h : Holding) (scope : Scope)
    (counts : (k : ℤ) → scope.words.writes k ≡ true → scope.words.reads k ≡ true) (is_such : ℤ → Type 0) where
  -- words that are taken are such words, and all others stay
  pub record Takes (memory new : Memory) : Type 0 where
    pub keeps : KeepsMemory m h scope memory new
    pub others : (k : ℤ) → (is_such k → ⊥)
        → frame_word new scope.layout.origin k ≡ frame_word memory scope.layout.origin k

  -- words are taken one after the other
  pub takes_words : (addresses : List ℕ) (memory : Memory)
      → ((a : ℕ) → IsAmong a addresses → IsTaken h scope (length memory) is_such a)
      → Takes memory (without_words addresses memory)
  takes_words [] memory own = record { keeps = keeps_all; others = λ k never. refl }
  takes_words (a ∷ addresses) memory own =
      let t = own a (inl refl) in
      let next : Memory = with_word memory (place_of a) None in
      let size : length next ≡ length memory = length-with_word memory (place_of a) None in
      let rest = takes_words addresses next (λ b among.
      let u = own b (inr among) in
      record {
        k = u.k;
        writes = u.writes;
        word = record {
          place = u.word.place;
          is = u.word.is;
          inside = (let i = u.word.inside in omega (arith, i, size));
          mine = u.word.mine;
        };
        place = u.place;
        such = u.such;
      }) in
      record {
        keeps = keeps_more (subst (λ (p : ℕ). KeepsMemory m h scope memory (with_word memory p None)) (sym t.place)
            (write_keeps m h scope t.k memory None t.writes (counts t.k t.writes) t.word)) rest.keeps;
        others = λ k never. rest.others k never ∙ subst (λ (p : ℕ).
            frame_word (with_word memory p None) scope.layout.origin k ≡ frame_word memory scope.layout.origin k)
            (sym t.place) (word_elsewhere memory scope.layout.origin k t.k t.word.place None t.word.is
            (λ same. never (subst is_such (sym same) t.such)));
      }

-- ---- a start

module _ (m : Contents) (found : Found) (layout : Layout) (base : ℕ) (addresses : List (Option ℕ))
    (h : Holding) (memory : Memory) (depth : ℤ) (workspace : ℕ)
    (s : CanStart m found layout base addresses h memory depth workspace) where
  abbrev left_scope : Scope
  left_scope = scope_left m found.par found.par.context found.number layout

  -- a word that scheduling takes is one of the branch's to write
  scheduled : (n : ℕ) → n < 3 → FitsSigned w32 (negsuc n)
      → IsTaken h left_scope (length memory) (IsScheduling found)
      (scheduling_word (frame_address base found.branch.workspace) n)
  scheduled n low fits =
      let among = s.left.scheduling n low in
      let writes = s.left.writes (found.branch.workspace +ℤ negsuc n) among in
      let w = s.frame.own (found.branch.workspace +ℤ negsuc n) writes in
      let frame = (branches_hold_their_shares m found layout base addresses h memory depth workspace s).frame in
      record {
        k = found.branch.workspace +ℤ negsuc n;
        writes = writes;
        word = w;
        place = local_place frame (negsuc n) fits w.place w.is w.inside;
        such = record { n = n; low = low; is = refl };
      }

  -- the three words that scheduling takes
  start_takes : Takes m h left_scope (left_readable m found.par found.par.context found.number)
      (IsScheduling found) memory (memory_after_start found base memory)
  start_takes = takes_words m h left_scope (left_readable m found.par found.par.context found.number)
      (IsScheduling found)
      (scheduling_addresses (frame_address base found.branch.workspace)) memory each
    where
      each : (a : ℕ) → IsAmong a (scheduling_addresses (frame_address base found.branch.workspace))
          → IsTaken h left_scope (length memory) (IsScheduling found) a
      each a (inl here) = subst (IsTaken h left_scope (length memory) (IsScheduling found)) here
          (scheduled 0 (omega arith) (omega (arith, ints)))
      each a (inr (inl here)) = subst (IsTaken h left_scope (length memory)
          (IsScheduling found)) here (scheduled 1 (omega arith) (omega (arith, ints)))
      each a (inr (inr (inl here))) = subst (IsTaken h left_scope (length memory)
          (IsScheduling found)) here (scheduled 2 (omega arith) (omega (arith, ints)))
      each a (inr (inr (inr never))) = absurd never

  -- what is known of the starter still holds
  pub takes_its_words : StartTakes m found layout base addresses h memory (memory_after_start found base memory) depth
      workspace
  takes_its_words =
      let size : length (memory_after_start found base memory) ≡ length memory = start_takes.keeps.size in
      record {
        can = record {
          keeps = s.keeps;
          is = s.is;
          laid = s.laid;
          frame = same_frame (sym size) s.frame;
          named = start_takes.keeps.named s.named;
          left = s.left;
          inside = λ x read. let low = s.inside x read in omega (arith, low, size);
        };
        size = size;
        others = start_takes.others;
        words = λ k t. start_takes.others k (λ such. given k t (subst (λ (z : ℤ). is_among found.branch.writes z ≡ true)
            (sym such.is) (s.left.scheduling such.n such.low)));
      }
    where
      given : (k : ℤ) → (words_left m found.par found.par.context (found.number + 1)).reads k ≡ true
          → is_among found.branch.writes k ≡ true → ⊥
      given k t among =
          let a = and_parts (rights.may_read_word m found.par.context k && not (is_hidden found.par k)) _ t in
          let free : word_given_to_write found.par (found.number + 1) k ≡ false = not-true _ a.1 in
          let more = one_more found.par found.number found.branch (λ b. is_among b.writes k) s.is.branch in
          let no' : false ≡ true = sym free ∙ more ∙ or_right (word_given_to_write found.par found.number k)
          (is_among found.branch.writes k) among in
          cc

-- so at each start
pub starts_take_their_words : StartsTakeTheirWords
starts_take_their_words m found layout base addresses h memory depth workspace s =
    takes_its_words m found layout base addresses h memory depth workspace s

-- ---- an opening

module _ (m : Contents) (row : ℕ) (par : Par) (layout : Layout) (base : ℕ) (h : Holding) (memory : Memory)
    (depth : ℤ) (workspace : ℕ) (o : CanOpen m row par layout base h memory depth workspace) where
  abbrev whole_scope : Scope
  whole_scope = scope_of m par.context layout

  -- a hidden word is one that may be taken
  hidden_taken : (k : ℤ) (a : ℕ) (hides : is_hidden par k ≡ true)
      → place_of a ≡ (hidden_word m row par layout base h memory depth workspace o k hides).place
      → IsTaken h whole_scope (length memory) (λ k. is_hidden par k ≡ true) a
  hidden_taken k a hides at = record {
    k = k;
    writes = o.own k hides;
    word = hidden_word m row par layout base h memory depth workspace o k hides;
    place = at;
    such = hides;
  }

  -- so is that of each channel
  channel_taken : (cs : List ChannelRow) → ((c : ChannelRow) → IsAmong c cs → IsAmong c par.channels) → (a : ℕ)
      → IsAmong a (map (λ (c : ChannelRow). frame_address base c.word) cs)
      → IsTaken h whole_scope (length memory) (λ k. is_hidden par k ≡ true) a
  channel_taken [] all a among = absurd among
  channel_taken (c ∷ cs) all a (inl here) =
      let hides = channel_hides m row par layout base h memory depth workspace o c.word
      (channel_is_word m row par layout base h memory depth workspace o c (all c (inl refl))) in
      subst (IsTaken h whole_scope (length memory) (λ k. is_hidden par k ≡ true)) here
      (hidden_taken c.word (frame_address base c.word) hides
      (hidden_place m row par layout base h memory depth workspace o c.word hides
      ((fits_words m row par layout base h memory depth workspace o).channels c (all c (inl refl)))))
  channel_taken (c ∷ cs) all a (inr there) = channel_taken cs (λ d among. all d (inr among)) a there

  -- each of the words that no branch has
  pub hidden_address : (a : ℕ) → IsAmong a (block_addresses base par ++ channel_addresses base par)
      → IsTaken h whole_scope (length memory) (λ k. is_hidden par k ≡ true) a
  hidden_address a (inl here) = subst (IsTaken h whole_scope (length memory) (λ k. is_hidden par k ≡ true)) here
      (hidden_taken par.block (frame_address base par.block)
      (block_hides m row par layout base h memory depth workspace o)
      (hidden_place m row par layout base h memory depth workspace o par.block
      (block_hides m row par layout base h memory depth workspace o)
      (fits_words m row par layout base h memory depth workspace o).block))
  hidden_address a (inr (inl here)) = subst (IsTaken h whole_scope (length memory) (λ k. is_hidden par k ≡ true)) here
      (hidden_taken (par.block +ℤ pos 1) (frame_address (frame_address base par.block) (pos 1))
      (next_hides m row par layout base h memory depth workspace o)
      (second_place m row par layout base h memory depth workspace o))
  hidden_address a (inr (inr later)) = channel_taken par.channels (λ c among. among) a later

  -- all of them are taken
  opening_takes : Takes m h whole_scope (λ k t. written_readable m par.context k t) (λ k. is_hidden par k ≡ true) memory
      (after_opening par base memory)
  opening_takes = takes_words m h whole_scope (λ k t. written_readable m par.context k t) (λ k. is_hidden par k ≡ true)
      (block_addresses base par ++ channel_addresses base par) memory hidden_address

  -- what is known of the starter still holds
  pub opening_takes_its_words : OpeningTakes m row par layout base h memory (after_opening par base memory) depth
      workspace
  opening_takes_its_words =
      let size : length (after_opening par base memory) ≡ length memory = opening_takes.keeps.size in
      record {
        can = record {
          keeps = o.keeps;
          is = o.is;
          origin = o.origin;
          frame = same_frame (sym size) o.frame;
          named = opening_takes.keeps.named o.named;
          inside = λ x read. let low = o.inside x read in omega (arith, low, size);
          own = o.own;
          free = o.free;
        };
        size = size;
        keeps = opening_takes.keeps;
        words = λ k t. opening_takes.others k (λ hides.
            let a = and_parts (rights.may_read_word m par.context k && not (is_hidden par k)) _ t in
            let shown = not-true (is_hidden par k) (and_parts (rights.may_read_word m par.context k) _ a.0).1 in
            let no' : true ≡ false = sym hides ∙ shown in cc);
      }

-- so at each opening
pub openings_take_their_words : OpeningsTakeTheirWords
openings_take_their_words m row par layout base h memory depth workspace o =
    opening_takes_its_words m row par layout base h memory depth workspace o

-- ---- a start, as its opener's scope sees it

module _ (m : Contents) (found : Found) (layout : Layout) (base : ℕ) (h : Holding) (memory : Memory) (depth : ℤ)
    (workspace : ℕ) (keeps : formats.Keeps m) (is : IsBranch m found) (left : IsLeft m found)
    (origin : pos base ≡ pos data_start +ℤ layout.origin)
    (frame : HasFrame h (length memory) (words_in m found.par.context) layout.origin depth workspace) where
  abbrev opener_scope : Scope
  opener_scope = scope_of m found.par.context layout

  -- what is left to write is the context's to write
  writes_of : (k : ℤ) → is_among found.branch.writes k ≡ true
      → rights.may_write_word m found.par.context k ≡ true
  writes_of k among =
      let a = and_parts (rights.may_write_word m found.par.context k && not (is_hidden found.par k)) _
      (left.writes k among) in
      (and_parts (rights.may_write_word m found.par.context k) _ a.0).0

  -- the three words are the opener's own
  own_scheduling : (n : ℕ) → n < 3
      → IsOwnWord h (length memory) layout.origin (found.branch.workspace +ℤ negsuc n)
  own_scheduling n low = frame.own (found.branch.workspace +ℤ negsuc n)
      (writes_of (found.branch.workspace +ℤ negsuc n) (left.scheduling n low))

  -- the frame, as the branch's workspace lies in it
  deep_frame : HasFrame h (length memory) (words_in m found.par.context) layout.origin found.branch.workspace
      (frame_address base found.branch.workspace)
  deep_frame = record {
    small = frame.small;
    from_start = frame.from_start;
    to_end = frame.to_end;
    own = frame.own;
    readable = frame.readable;
    start =
        (let w = own_scheduling 0 (omega arith) in
        let is_word = w.is in
        let inside = w.inside in
        let small = frame.small in
        let moved = moved_workspace base layout.origin (pos 0) found.branch.workspace
        (workspace_fits m found keeps is) (omega (arith, ints, origin)) (omega (arith, ints, is_word))
        (omega (arith, ints, is_word, inside, small)) in
        omega (arith, ints, moved));
  }

  -- they may be taken
  scheduling_taken : (n : ℕ) → n < 3 → FitsSigned w32 (negsuc n)
      → IsTaken h opener_scope (length memory) (IsScheduling found)
      (scheduling_word (frame_address base found.branch.workspace) n)
  scheduling_taken n low fits =
      let w = own_scheduling n low in
      record {
        k = found.branch.workspace +ℤ negsuc n;
        writes = writes_of (found.branch.workspace +ℤ negsuc n) (left.scheduling n low);
        word = w;
        place = local_place deep_frame (negsuc n) fits w.place w.is w.inside;
        such = record { n = n; low = low; is = refl };
      }

  -- and are
  opener_takes : Takes m h opener_scope (λ k t. written_readable m found.par.context k t) (IsScheduling found) memory
      (memory_after_start found base memory)
  opener_takes = takes_words m h opener_scope (λ k t. written_readable m found.par.context k t) (IsScheduling found)
      (scheduling_addresses (frame_address base found.branch.workspace)) memory each
    where
      each : (a : ℕ) → IsAmong a (scheduling_addresses (frame_address base found.branch.workspace))
          → IsTaken h opener_scope (length memory) (IsScheduling found) a
      each a (inl here) = subst (IsTaken h opener_scope (length memory) (IsScheduling found)) here
          (scheduling_taken 0 (omega arith) (omega (arith, ints)))
      each a (inr (inl here)) = subst (IsTaken h opener_scope (length memory) (IsScheduling found)) here
          (scheduling_taken 1 (omega arith) (omega (arith, ints)))
      each a (inr (inr (inl here))) = subst (IsTaken h opener_scope (length memory) (IsScheduling found)) here
          (scheduling_taken 2 (omega arith) (omega (arith, ints)))
      each a (inr (inr (inr never))) = absurd never

-- so what the opener's scope has still holds
pub starts_keep_openers : StartsKeepOpeners
starts_keep_openers m found layout base h memory depth workspace keeps is left origin frame =
    let taken = opener_takes m found layout base h memory depth workspace keeps is left origin frame in
    record { keeps = taken.keeps; others = taken.others }
