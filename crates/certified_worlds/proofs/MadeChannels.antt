-- Where a PAR is opened its channels are there, as long as its row says, and all other channels stay.
use Rattle.std.proofs.Common.{◌≡◌, ℕ, zero, suc, ◌+◌, ◌/◌, ◌<◌, true, ℤ, pos, ◌+ℤ◌, ◌*ℤ◌, ◌≤ℤ◌, FitsSigned}
use Rattle.std.proofs.Common.{List, [], ◌∷◌}
use Rattle.std.proofs.Common.{length, Option, Some, None, refl, sym, ap, ◌∙◌, subst, inl, inr, arith}
use Rattle.std.proofs.lemmas.Int.{ints}
use Rattle.std.proofs.lemmas.List.{length-set}
use Rattle.std.specs.Int.{w32}
use Rattle.std.specs.Prelude.{slice_get, slice_set}
use Rattle.module_format.specs.declared.rows.ChannelRow.{ChannelRow}
use Rattle.module_format.specs.declared.rows.EndKind.TheVariants.{FrameWord}
use Rattle.module_format.specs.Contents.{Contents, Par}
use Rattle.module_format.specs.Contexts.{first_branch}
use Rattle.module_format.specs.Order.{InOrder, least_word}
use Rattle.module_format.specs.Pars.{ParKeeps, behind_par, no_branches, ChannelKeeps, behind_channel}
use Rattle.module_format.specs.Keeping as formats
use Rattle.module_format.proofs.OrderLaws.{each}
use Rattle.machine_state.specs.declared.process.Channel.{Channel}
use Rattle.machine_state.specs.BranchShares.{frame_address}
use Rattle.machine_state.specs.Holding.{Holding, may_write}
use Rattle.machine_state.specs.Joins.{with_channels}
use Rattle.machine_state.specs.Memory.{Memory, place_of}
use Rattle.machine_state.specs.Moves.{cell_of}
use Rattle.machine_state.specs.Ownership.{IsAmong, HoldersIn, owner_of}
use Rattle.machine_state.specs.Roles.{own_in, opened_in}
use Rattle.machine_state.specs.World.{Role}
use Rattle.machine_state.proofs.Holders.{not_owned}
use Rattle.machine_state.proofs.Lines.{got_set, got_within}
use Rattle.machine_state.proofs.WhoWaits.{kept_channel}
use Rattle.rulings.specs.Meaning.{Layout}
use Rattle.rulings.specs.Regions.{channel_address}
use Rattle.rulings.proofs.Regions.{bytes_written}
use Rattle.share_laws.specs.Opening.{CanOpen}
use Rattle.share_laws.proofs.HiddenWords.{fits_words, hidden_word, hidden_place, channel_is_word}
use Rattle.share_laws.proofs.HiddenWords.{channel_hides, channel_at}
use Rattle.share_laws.proofs.Rows.{among_at, each_at}
use Rattle.certified_worlds.proofs.BranchLengths.{among_map}
use Rattle.certified_worlds.proofs.OrderlyWorlds.{KeepsChannels}
use Rattle.certified_worlds.proofs.ParsStay.{own_is}

-- ---- rows

-- what the format says of a row: its depth fits, and its channels rise
pub record RowRises (par : Par) : Type 0 where
  pub depth : FitsSigned w32 par.depth
  pub channels : InOrder ChannelKeeps behind_channel least_word par.channels

pub row_rises : (m : Contents) (row : ℕ) (par : Par) → formats.Keeps m → slice_get m.pars row ≡ Some par → RowRises par
row_rises m row par keeps at = each_at RowRises m.pars par
    (each (ParKeeps (first_branch m) (length m.code)) behind_par RowRises
    (λ before row k. record { depth = k.depth_fits; channels = k.channels }) no_branches m.pars keeps.rows.pars)
    (among_at m.pars row par at)

-- each channel is from there on
rises_from : (low : ℤ) (cs : List ChannelRow) (d : ChannelRow) → InOrder ChannelKeeps behind_channel low cs
    → IsAmong d cs → low ≤ℤ d.word
rises_from low [] d order among = absurd among
rises_from low (c ∷ cs) d order (inl here) = subst (λ (x : ChannelRow). low ≤ℤ x.word) here order.0.rises
rises_from low (c ∷ cs) d order (inr there) =
    let first = order.0.rises in
    let rest = rises_from (c.word +ℤ pos 1) cs d order.1 there in
    omega (arith, ints, first, rest)

-- ---- the channels of a row are made

-- as it is made
abbrev made : ℕ → ChannelRow → Channel
made p row = record { opener = p; length = row.length; waiting = None; enabled = None }

abbrev cell_at : ℕ → ChannelRow → ℕ
cell_at base row = cell_of (frame_address base row.word)

made_there : (p base : ℕ) (rows : List ChannelRow) (cells : List (Option Channel)) (low : ℤ)
    → InOrder ChannelKeeps behind_channel low rows
    → ((a b : ChannelRow) → IsAmong a rows → IsAmong b rows → cell_at base a ≡ cell_at base b → a.word ≡ b.word)
    → ((a : ChannelRow) → IsAmong a rows → cell_at base a < length cells) → (n : ℕ) (row : ChannelRow)
    → slice_get rows n ≡ Some row
    → slice_get (with_channels p base rows cells) (cell_at base row) ≡ Some (Some (made p row))
made_there p base [] cells low order once inside n row at = absurd (cc)
made_there p base (c ∷ rows) cells low order once inside zero row at =
    let same : c ≡ row = cc in
    let k = cell_at base c in
    let was = got_within cells k (inside c (inl refl)) in
    subst (λ (x : ChannelRow). slice_get (with_channels p base (c ∷ rows) cells) (cell_at base x)
    ≡ Some (Some (made p x))) same
    (kept_channel p base rows (slice_set cells k (Some (made p c))) k (made p c)
    (got_set cells k was.0 (Some (made p c)) was.1) (λ a among cell.
    let d = among_map (λ (x : ChannelRow). frame_address base x.word) rows a among in
    let word : d.0.word ≡ c.word = once d.0 c (inr d.1) (inl refl) (ap cell_of d.2 ∙ cell) in
    let rises = rises_from (c.word +ℤ pos 1) rows d.0 order.1 d.1 in
    omega (arith, ints, word, rises)))
made_there p base (c ∷ rows) cells low order once inside (suc n) row at =
    let same = length-set cells (cell_at base c) (Some (made p c)) in
    made_there p base rows (slice_set cells (cell_at base c) (Some (made p c))) (c.word +ℤ pos 1) order.1
    (λ a b there here. once a b (inr there) (inr here))
    (λ a there. let low = inside a (inr there) in omega (arith, low, same)) n row at

-- ---- where a PAR is opened

module _ (m : Contents) (row : ℕ) (par : Par) (layout : Layout) (base : ℕ) (memory : Memory) (depth : ℤ)
    (workspace : ℕ) (roles : List Role) (cells : List (Option Channel)) (holders : HoldersIn m roles cells) (p : ℕ)
    (role : Role) (has_role : slice_get roles p ≡ Some role) (unopened : opened_in roles p ≡ None)
    (many : length cells ≡ m.data_words)
    (can : CanOpen m row par layout base role.own memory depth workspace) where
  abbrev cells_after : List (Option Channel)
  cells_after = with_channels p base par.channels cells

  -- the place of a channel's word, which is the opener's own
  record IsOwnPlace (c : ChannelRow) : Type 0 where
    place : ℕ
    is : pos place ≡ layout.origin +ℤ (pos 4 *ℤ c.word)
    at : place_of (frame_address base c.word) ≡ place
    mine : may_write role.own place ≡ true

  own_place : (c : ChannelRow) → IsAmong c par.channels → IsOwnPlace c
  own_place c among =
      let hides = channel_hides m row par layout base role.own memory depth workspace can c.word
      (channel_is_word m row par layout base role.own memory depth workspace can c among) in
      let w = hidden_word m row par layout base role.own memory depth workspace can c.word hides in
      record {
        place = w.place;
        is = w.is;
        at = hidden_place m row par layout base role.own memory depth workspace can c.word hides
            ((fits_words m row par layout base role.own memory depth workspace can).channels c among);
        mine = subst (λ (x : ℕ). may_write role.own x ≡ true)
            (let e : w.place + 0 ≡ w.place = omega arith in e)
            (bytes_written role.own w.place w.mine 0 (omega arith));
      }

  mine_in : (x : ℕ) → may_write role.own x ≡ true → may_write (own_in roles p) x ≡ true
  mine_in x mine = subst (λ (g : Holding). may_write g x ≡ true) (sym (own_is roles p role has_role)) mine

  -- what was there stays: no channel lies in a word of a process that has no join open
  pub channels_stay : KeepsChannels cells cells_after
  channels_stay k c here = kept_channel p base par.channels cells k c here (λ a among cell.
      let d = among_map (λ (x : ChannelRow). frame_address base x.word) par.channels a among in
      let w = own_place d.0 d.1 in
      let at : w.place / 4 ≡ k = ap (λ (x : ℕ). x / 4) (sym w.at) ∙ ap cell_of d.2 ∙ cell in
      not_owned holders p c.opener w.place unopened (mine_in w.place w.mine)
      (ap (λ (n : ℕ). owner_of (slice_get cells n)) at ∙ ap owner_of here))

  -- and the row's channels are there
  pub channels_made : (n : ℕ) (channel : ChannelRow) → slice_get par.channels n ≡ Some channel
      → (c : Channel) × (slice_get cells_after (cell_of (channel_address layout (FrameWord channel.word)))
      ≡ Some (Some c)) × (c.length ≡ channel.length) × (c.opener ≡ p)
  channels_made n channel at =
      let among = among_at par.channels n channel at in
      let address = channel_at m row par layout base role.own memory depth workspace can channel.word
      (channel_is_word m row par layout base role.own memory depth workspace can channel among) in (
        made p channel,
        subst (λ (a : ℕ). slice_get cells_after (cell_of a) ≡ Some (Some (made p channel))) address
            (made_there p base par.channels cells least_word (row_rises m row par can.keeps can.is).channels once
            inside n channel at),
        refl,
        refl,
      )
    where
      once : (a b : ChannelRow) → IsAmong a par.channels → IsAmong b par.channels → cell_at base a ≡ cell_at base b
          → a.word ≡ b.word
      once a b there here same =
          let u = own_place a there in
          let v = own_place b here in
          let left = u.is in
          let right = v.is in
          let cell : u.place / 4 ≡ v.place / 4 =
          ap (λ (x : ℕ). x / 4) (sym u.at) ∙ same ∙ ap (λ (x : ℕ). x / 4) v.at in
          omega (arith, ints, left, right, cell)

      inside : (a : ChannelRow) → IsAmong a par.channels → cell_at base a < length cells
      inside a there =
          let w = own_place a there in
          let low = holders.inside p w.place (mine_in w.place w.mine) in
          let cell : cell_at base a ≡ w.place / 4 = ap (λ (x : ℕ). x / 4) w.at in
          omega (arith, low, cell, many)
