-- Who has enabled something is in an alternation.
use Rattle.std.proofs.Common.{◌≡◌, ℕ, zero, suc, ◌+◌, ◌||◌, Bool, true, false, ◌⊎◌, inl, inr}
use Rattle.std.proofs.Common.{List, [], ◌∷◌, Option, Some, None, is_some, refl, sym, ap, ◌∙◌, subst}
use Rattle.std.proofs.Common.{slice_get, replicate}
use Rattle.std.proofs.lemmas.Bool.{cases_eq, or_left, or_right}
use Rattle.std.specs.Prelude.{slice_set}
use Rattle.std.specs.List.{list_any}
use Rattle.std.proofs.lemmas.Map.Keys.{any_passes_from_place}
use Rattle.small_laws.proofs.Options.{same_some}
use Rattle.small_laws.proofs.Comparisons.{eqb-self}
use Rattle.small_laws.proofs.Lookups.{slice_get-append_left}
use Rattle.module_format.specs.Contents.{Contents}
use Rattle.machine_state.specs.declared.link.InputLink.{InputLink}
use Rattle.machine_state.specs.declared.process.Channel.{Channel}
use Rattle.machine_state.specs.declared.process.Registers.{Registers}
use Rattle.machine_state.specs.declared.process.Task.{Task}
use Rattle.machine_state.specs.declared.process.Mode.{Mode}
use Rattle.machine_state.specs.declared.process.Mode.TheVariants.{Plain, Enabling, Disabling, Starting}
use Rattle.machine_state.specs.declared.process.Condition.{Condition}
use Rattle.machine_state.specs.declared.process.Condition.TheVariants.{Ready, Sending, Receiving, OnLink, Alternating}
use Rattle.machine_state.specs.declared.process.Condition.TheVariants.{Ended}
use Rattle.machine_state.specs.declared.process.Exchange.{Exchange}
use Rattle.machine_state.specs.World.{World, Links, Role, loaded}
use Rattle.machine_state.specs.Moves.{cell_of}
use Rattle.machine_state.specs.Turn.{Here, at_here}
use Rattle.machine_state.specs.Alternations.{ready_or, is_by, has_enabled}
use Rattle.machine_state.specs.Joins.{closed_task, without_channels}
use Rattle.machine_state.specs.Happens.{world_after}
use Rattle.machine_state.specs.EnabledLaws.{HasEnabled, a_channel, a_link, Enables, Alternates}
use Rattle.machine_state.specs.EnabledLaws.{IsInAlternation, AllAlternate, WhoEnabledAlternates}
use Rattle.machine_state.proofs.Lines.{got_set, got_other, set_either}
use Rattle.machine_state.proofs.Claims.{not_some}
use Rattle.machine_state.proofs.Modes.{IsOutside}
use Rattle.machine_state.proofs.Waiting.{WaitsIn, reached}
use Rattle.machine_state.proofs.ChannelWaiters.{new_is_quiet, left_channel}
use Rattle.machine_state.proofs.Changes as change
use Rattle.machine_state.proofs.Changes.{Changed, Passed, Onward, Receives, Roused, going, cell_is, with_cell}
use Rattle.machine_state.proofs.Changes.{with_link}
use Rattle.machine_state.proofs.Changes.{running_is_ready, of_every_world}

-- ---- modes and conditions

pub not_plain : (mode : Mode) (c : Condition) → mode ≡ Plain → Alternates mode c → ⊥
not_plain mode c plain (inl e) = let x : Plain ≡ Enabling e.0.0 = sym plain ∙ e.0.1 in cc
not_plain mode c plain (inr d) = let x : Plain ≡ Disabling d.0.0 = sym plain ∙ d.0.1 in cc

pub not_outside : (mode : Mode) (c : Condition) → IsOutside mode → Alternates mode c → ⊥
not_outside mode c (inl plain) a = not_plain mode c plain a
not_outside mode c (inr starting) (inl e) = let x : Starting ≡ Enabling e.0.0 = sym starting ∙ e.0.1 in cc
not_outside mode c (inr starting) (inr d) = let x : Starting ≡ Disabling d.0.0 = sym starting ∙ d.0.1 in cc

-- one that alternates is ready, or waits for what it has enabled
pub not_on_link : (mode : Mode) (e : Exchange) (done : ℕ) → Alternates mode (OnLink e done) → ⊥
not_on_link mode e done (inl a) = let x = a.1 in cc
not_on_link mode e done (inr d) = elim d.1 [ inl ready ↦ cc | inr alternating ↦ cc ]

pub not_ended : (mode : Mode) (c : Condition) → c ≡ Ended → Alternates mode c → ⊥
not_ended mode c over (inl a) = let x : Ended ≡ Ready = sym over ∙ a.1 in cc
not_ended mode c over (inr d) = elim d.1 [
  | inl ready ↦ let x : Ended ≡ Ready = sym over ∙ ready in cc
  | inr alternating ↦ let x : Ended ≡ Alternating = sym over ∙ alternating in cc
]

-- it may become ready at any time
now_ready : (mode : Mode) (c : Condition) → Alternates mode c → Alternates mode Ready
now_ready mode c (inl e) = inl (e.0, refl)
now_ready mode c (inr d) = inr (d.0, inl refl)

-- ---- what is enabled after something was set

pub set_enabled : (cells : List (Option Channel)) (inputs : List InputLink) (k : ℕ) (new : Channel) (p : ℕ)
    → HasEnabled (slice_set cells k (Some new)) inputs p → HasEnabled cells inputs p ⊎ (new.enabled ≡ Some p)
set_enabled cells inputs k new p (a_channel n c here is) = elim (set_either cells k (Some new) n (Some c) here) [
  | inl it ↦
      let same : c ≡ new = let x = it.1 in cc in
      inr (ap (λ (x : Channel). x.enabled) (sym same) ∙ is)
  | inr old ↦ inl (a_channel n c old.1 is)
]
set_enabled cells inputs k new p (a_link n l here is) = inl (a_link n l here is)

pub set_link_enabled : (cells : List (Option Channel)) (inputs : List InputLink) (k : ℕ) (new : InputLink) (p : ℕ)
    → HasEnabled cells (slice_set inputs k new) p → HasEnabled cells inputs p ⊎ (new.enabled ≡ Some p)
set_link_enabled cells inputs k new p (a_channel n c here is) = inl (a_channel n c here is)
set_link_enabled cells inputs k new p (a_link n l here is) = elim (set_either inputs k new n l here) [
  | inl it ↦ inr (ap (λ (x : InputLink). x.enabled) (sym it.1) ∙ is)
  | inr old ↦ inl (a_link n l old.1 is)
]

pub by_itself : (o : Option ℕ) (p : ℕ) → o ≡ Some p → is_by o p ≡ true
by_itself o p is = subst (λ (o : Option ℕ). is_by o p ≡ true) (sym is) (eqb-self p)

pub it_has_enabled : (w : World) (p : ℕ) → HasEnabled w.channels w.links.inputs p → has_enabled w p ≡ true
it_has_enabled w p (a_link k l here is) =
    or_left _ _ (any_passes_from_place (λ (link : InputLink). is_by link.enabled p) w.links.inputs k l here
    (by_itself l.enabled p is))
it_has_enabled w p (a_channel k c here is) =
    or_right (list_any (λ (link : InputLink). is_by link.enabled p) w.links.inputs) _
    (any_passes_from_place (λ (cell : Option Channel). elim cell as (λ o. Bool) [
      | None ↦ false
      | Some channel ↦ is_by channel.enabled p
    ]) w.channels k (Some c) here (by_itself c.enabled p is))

-- ---- a task is changed

-- one that alternates does so still
alternates_set : (tasks : List Task) (q : ℕ) (t u : Task) → slice_get tasks q ≡ Some t
    → (Alternates t.mode t.condition → Alternates u.mode u.condition) → (p : ℕ) → IsInAlternation tasks p
    → IsInAlternation (slice_set tasks q u) p
alternates_set tasks q t u there keeps p x = elim (cases_eq q p) [
  | inl e ↦
      let same = same_some (slice_get tasks p) x.task t x.here (subst (λ n. slice_get tasks n ≡ Some t) e there) in
      record {
        task = u;
        here = subst (λ n. slice_get (slice_set tasks q u) n ≡ Some u) e (got_set tasks q t u there);
        alternates = keeps (subst (λ (y : Task). Alternates y.mode y.condition) same x.alternates);
      }
  | inr differ ↦ record { task = x.task; here = got_other tasks q p u differ ∙ x.here; alternates = x.alternates }
]

alternates_roused : (tasks later : List Task) (o : Option ℕ) → Roused tasks o later → (p : ℕ)
    → IsInAlternation tasks p → IsInAlternation later p
alternates_roused tasks later o (change.nobody deaf) p x = x
alternates_roused tasks later o (change.who_enables q t here is awake) p x =
    alternates_set tasks q t (record t { mode = Enabling true }) here on p x
  where
    on : Alternates t.mode t.condition → Alternates (Enabling true) t.condition
    on (inl e) = inl ((true, refl), e.1)
    on (inr d) = absurd (let z : Enabling is.0 ≡ Disabling d.0.0 = sym is.1 ∙ d.0.1 in cc)
alternates_roused tasks later o (change.who_waits q t here waits) p x =
    alternates_set tasks q t (record t { condition = Ready }) here (now_ready t.mode t.condition) p x

-- ---- an instruction of the running process

module _ (h : Here) (w : World) (runs : w.queue.running ≡ Some h.process)
    (there : slice_get w.tasks h.process ≡ Some h.from) (keeps : WaitsIn w)
    (all : AllAlternate w.tasks w.channels w.links.inputs) where
  ready : h.from.condition ≡ Ready
  ready = running_is_ready h w runs there keeps

  -- what it does if it has enabled something
  abbrev Goes : Mode → Condition → Type 0
  Goes mode c = HasEnabled w.channels w.links.inputs h.process → Alternates h.from.mode h.from.condition
      → Alternates mode c

  -- the process goes on so, and whatever is enabled was
  goes : (r : Registers) (mode : Mode) (c : Condition) → Goes mode c → (p : ℕ)
      → HasEnabled w.channels w.links.inputs p → IsInAlternation (going h w r mode c) p
  goes r mode c kept p has = elim (cases_eq h.process p) [
    | inl e ↦ alternates_set w.tasks h.process h.from (record { registers = r; mode = mode; condition = c }) there
        (kept (subst (λ n. HasEnabled w.channels w.links.inputs n) (sym e) has)) p (all p has)
    | inr differ ↦
        let x = all p has in
        record {
          task = x.task;
          here = got_other w.tasks h.process p (record { registers = r; mode = mode; condition = c }) differ ∙ x.here;
          alternates = x.alternates;
        }
  ]

  -- it has enabled one more
  goes_new : (r : Registers) (mode : Mode) (c : Condition) → Alternates mode c → (p : ℕ)
      → HasEnabled w.channels w.links.inputs p ⊎ (Some h.process ≡ Some p) → IsInAlternation (going h w r mode c) p
  goes_new r mode c alternates p (inl old) = goes r mode c (λ has was. alternates) p old
  goes_new r mode c alternates p (inr new) =
      let e = same_some (Some h.process) h.process p refl new in
      subst (λ n. IsInAlternation (going h w r mode c) n) e (record {
        task = record { registers = r; mode = mode; condition = c };
        here = got_set w.tasks h.process h.from (record { registers = r; mode = mode; condition = c }) there;
        alternates = alternates;
      })

  -- a channel was changed, and is enabled by the same; or a link
  same_channel : (address n : ℕ) (old new : Channel) → cell_is w address old → new.enabled ≡ old.enabled → (p : ℕ)
      → HasEnabled (slice_set w.channels n (Some new)) w.links.inputs p → HasEnabled w.channels w.links.inputs p
  same_channel address n old new at same p has = elim (set_enabled w.channels w.links.inputs n new p has) [
    | inl before ↦ before
    | inr by ↦ a_channel (cell_of address) old at (sym same ∙ by)
  ]

  same_link : (k : ℕ) (old new : InputLink) → slice_get w.links.inputs k ≡ Some old → new.enabled ≡ old.enabled
      → (p : ℕ) → HasEnabled w.channels (with_link w k new).inputs p → HasEnabled w.channels w.links.inputs p
  same_link k old new at same p has = elim (set_link_enabled w.channels w.links.inputs k new p has) [
    | inl before ↦ before
    | inr by ↦ a_link k old at (sym same ∙ by)
  ]

  -- it does something else, outside alternations
  plain : h.from.mode ≡ Plain → (mode : Mode) (c : Condition) → Goes mode c
  plain is mode c has was = absurd (not_plain h.from.mode h.from.condition is was)

  outside : IsOutside h.from.mode → (mode : Mode) (c : Condition) → Goes mode c
  outside is mode c has was = absurd (not_outside h.from.mode h.from.condition is was)

  still_enables : Enables h.from.mode → (b : Bool) → Alternates (ready_or h.from.mode b) h.from.condition
  still_enables is b = inl ((is.0 || b, ap (λ (mode : Mode). ready_or mode b) is.1), ready)

  onward : (mode : Mode) (c : Condition) → Onward h w mode c → Goes mode c
  onward mode c change.as_before has was = was
  onward mode c (change.stops is) has was = plain is mode c has was
  onward mode c (change.begins is) has was = plain is mode c has was
  onward mode c (change.enables is b) has was = still_enables is b
  onward mode c (change.is_ready is) has was = inr ((None, refl), inl ready)
  onward mode c (change.alternates is unready) has was = inr ((None, refl), inr refl)
  onward mode c (change.disables is later further) has was = inr (further, inl ready)
  onward mode c (change.ends_alternation is none) has was =
      absurd (let e : false ≡ true = sym none ∙ it_has_enabled w h.process has in cc)

  -- the link where it receives is enabled by the same
  received : (e : Exchange) (link new : InputLink) (c : Condition) → Receives h e link c new
      → new.enabled ≡ link.enabled
  received e link new c (change.no_byte none) = refl
  received e link new c change.the_last = refl
  received e link new c change.one_of_more = refl

  changed : (ts : List Task) (rs : List Role) (cs : List (Option Channel)) (ls : Links) → Changed h w ts rs cs ls
      → AllAlternate ts cs ls.inputs
  changed ts rs cs ls (change.goes_on r mode c x) p has = goes r mode c (onward mode c x) p has
  changed ts rs cs ls (change.waits_to_receive r e c is holds at none) p has =
      goes r h.from.mode (Receiving e) (plain is h.from.mode (Receiving e)) p
      (same_channel e.channel (cell_of e.channel) c (record c { waiting = Some h.process }) at refl p has)
  changed ts rs cs ls (change.waits_to_send r e c tasks is holds at none roused) p has =
      alternates_roused (going h w r h.from.mode (Sending e)) tasks c.enabled roused p
      (goes r h.from.mode (Sending e) (plain is h.from.mode (Sending e)) p
      (same_channel e.channel (cell_of e.channel) c (record c { waiting = Some h.process }) at refl p has))
  changed ts rs cs ls (change.meets_sender r e sent c other is holds at waits x) p has =
      alternates_set (going h w r h.from.mode h.from.condition) other x.task (record x.task { condition = Ready })
      (got_other w.tasks h.process other _ x.differ ∙ x.here) (now_ready x.task.mode x.task.condition) p
      (goes r h.from.mode h.from.condition (λ has was. was) p
      (same_channel e.channel (cell_of sent.channel) c (record c { waiting = None }) at refl p has))
  changed ts rs cs ls (change.meets_receiver r e wanted c other is holds at waits x) p has =
      alternates_set (going h w r h.from.mode h.from.condition) other x.task (record x.task { condition = Ready })
      (got_other w.tasks h.process other _ x.differ ∙ x.here) (now_ready x.task.mode x.task.condition) p
      (goes r h.from.mode h.from.condition (λ has was. was) p
      (same_channel e.channel (cell_of e.channel) c (record c { waiting = None }) at refl p has))
  changed ts rs cs ls (change.receives_outside r e k link new c is holds word here receives) p has =
      goes r h.from.mode c (plain is h.from.mode c) p
      (same_link k link new here (received e link new c receives) p has)
  changed ts rs cs ls (change.sends_outside r e k is holds word low) p has =
      goes r h.from.mode (OnLink e 0) (plain is h.from.mode (OnLink e 0)) p has
  changed ts rs cs ls (change.starts r role j own child cells is here calm awake opening) p has =
      let x = goes r Starting h.from.condition (outside is Starting h.from.condition) p (old has) in
      record {
        task = x.task;
        here = slice_get-append_left (going h w r Starting h.from.condition) (child ∷ []) p x.task x.here;
        alternates = x.alternates;
      }
    where
      old : HasEnabled cells w.links.inputs p → HasEnabled w.channels w.links.inputs p
      old (a_link k l here is) = a_link k l here is
      old (a_channel k c here is) = elim (new_is_quiet h w cells opening k c here) [
        | inl before ↦ a_channel k c before is
        | inr quiet ↦ not_some p (sym quiet.1 ∙ is)
      ]
  changed ts rs cs ls (change.leaves_join r o roles x some) p has =
      goes r Plain Ended (outside x.outside Plain Ended) p has
  changed ts rs cs ls (change.closes_join r o roles x none par t here over) p has =
      alternates_set (going h w r Plain Ended) o t (closed_task x.join par t) here
      (λ was. absurd (not_ended t.mode t.condition over was)) p
      (goes r Plain Ended (outside x.outside Plain Ended) p (old has))
    where
      old : HasEnabled (without_channels o w.channels) w.links.inputs p → HasEnabled w.channels w.links.inputs p
      old (a_link k l here is) = a_link k l here is
      old (a_channel k c here is) = a_channel k c (left_channel o w.channels k c here) is
  changed ts rs cs ls (change.enables_a_channel r address c is holds at once) p has =
      goes_new r _ h.from.condition (still_enables is (is_some c.waiting)) p
      (set_enabled w.channels w.links.inputs (cell_of address) (record c { enabled = Some h.process }) p has)
  changed ts rs cs ls (change.enables_a_link r k link is holds here once) p has =
      goes_new r _ h.from.condition (still_enables is (is_some link.kept)) p
      (set_link_enabled w.channels w.links.inputs k (record link { enabled = Some h.process }) p has)
  changed ts rs cs ls (change.disables_a_channel r mode address c is further at mine) p has =
      elim (set_enabled w.channels w.links.inputs (cell_of address) (record c { enabled = None }) p has) [
        | inl old ↦ goes r mode h.from.condition (λ has was. inr (further, inl ready)) p old
        | inr never ↦ not_some p never
      ]
  changed ts rs cs ls (change.disables_a_link r mode k link is further here mine) p has =
      elim (set_link_enabled w.channels w.links.inputs k (record link { enabled = None }) p has) [
        | inl old ↦ goes r mode h.from.condition (λ has was. inr (further, inl ready)) p old
        | inr never ↦ not_some p never
      ]

-- ---- every event

module _ (m : Contents) (w : World) (keeps : WaitsIn w) (all : AllAlternate w.tasks w.channels w.links.inputs) where
  passed : (ts : List Task) (rs : List Role) (cs : List (Option Channel)) (ls : Links) → Passed m w ts rs cs ls
      → AllAlternate ts cs ls.inputs
  passed ts rs cs ls change.nothing_happens p has = all p has
  passed ts rs cs ls (change.it_runs q pick task runs here x) p has =
      changed (at_here m q task pick) w runs here keeps all ts rs cs ls x p has
  passed ts rs cs ls (change.fills_last q k link here waiting x) p has =
      alternates_set w.tasks q x.task (record x.task { condition = Ready }) x.here
      (now_ready x.task.mode x.task.condition) p
      (elim (set_link_enabled w.channels w.links.inputs k (record link { waiting = None }) p has) [
        | inl before ↦ all p before
        | inr by ↦ all p (a_link k link here by)
      ])
  passed ts rs cs ls (change.fills_more q k x) p has =
      alternates_set w.tasks q x.task (record x.task { condition = OnLink x.exchange (x.done + 1) }) x.here
      (λ a. absurd (not_on_link x.task.mode x.exchange x.done
      (subst (λ (c : Condition). Alternates x.task.mode c) x.waits a))) p (all p has)
  passed ts rs cs ls (change.keeps_byte k byte link tasks here empty roused) p has =
      alternates_roused w.tasks tasks link.enabled roused p
      (elim (set_link_enabled w.channels w.links.inputs k (record link { kept = Some byte }) p has) [
        | inl before ↦ all p before
        | inr by ↦ all p (a_link k link here by)
      ])
  passed ts rs cs ls (change.acknowledges q k link here waiting x) p has =
      alternates_set w.tasks q x.task (record x.task { condition = Ready }) x.here
      (now_ready x.task.mode x.task.condition) p (all p has)

loaded_alternates : (m : Contents)
    → AllAlternate (loaded m).tasks (loaded m).channels (loaded m).links.inputs
loaded_alternates m p (a_channel k c here is) = absurd (never m.data_words k here)
  where
    never : (n k : ℕ) → slice_get (replicate n None) k ≡ Some (Some c) → ⊥
    never zero k is = cc
    never (suc n) zero is = cc
    never (suc n) (suc k) is = never n k is
loaded_alternates m p (a_link k l here is) = absurd (never 4 k here)
  where
    quiet : InputLink
    quiet = record { kept = None; waiting = None; enabled = None }

    never : (n k : ℕ) → slice_get (replicate n quiet) k ≡ Some l → ⊥
    never zero k here = cc
    never (suc n) zero here =
        let same : quiet ≡ l = cc in
        let e : None ≡ Some p = ap (λ (x : InputLink). x.enabled) same ∙ is in cc
    never (suc n) (suc k) here = never n k here

pub who_enabled_alternates : WhoEnabledAlternates
who_enabled_alternates m es = of_every_world m (λ ts rs cs ls. AllAlternate ts cs ls.inputs) (loaded_alternates m)
    (λ es ts rs cs ls all x. passed m (world_after m es) (reached m es) all ts rs cs ls x) es
