-- Those that wait for a return do so whatever the activation still changes.
use Rattle.std.proofs.Common.{◌≡◌, ℕ, false, List, ◌∷◌, ap, ◌∙◌, subst}
use Rattle.module_format.specs.Contents.{Contents}
use Rattle.machine_state.specs.Memory.{Memory}
use Rattle.machine_state.specs.Holding.{Holding}
use Rattle.states.specs.declared.known.Mode.{Mode}
use Rattle.states.specs.declared.known.Mode.TheVariants.{Plain, Enabling, Disabling, Starting}
use Rattle.rulings.specs.Meaning.{Layout}
use Rattle.rulings.specs.Fitting.{Caller}
use Rattle.rulings.specs.Regions.{scope_of, scope_among, KeepsMemory, HoldsNamed}
use Rattle.rulings.proofs.Lending.{lift}
use Rattle.rulings.proofs.Regions.{keeps_all, keeps_more}
use Rattle.rulings.proofs.Within.{is_starting}
use Rattle.certified_worlds.specs.Point.{Began, Behind, nobody_waits, one_waits, BehindIn}

pub behind_keeps : {m : Contents} {h : Holding} {began : Began} {context : ℕ} {layout : Layout} {old new : Memory}
    {callers : List Caller} → KeepsMemory m h (scope_of m context layout) old new
    → Behind m h began context layout old callers → Behind m h began context layout new callers
behind_keeps keeps (nobody_waits same there procedure) = nobody_waits same there procedure
behind_keeps keeps (one_waits some few reached going lengths base lends resumes rest) =
    one_waits some few reached going lengths base lends (λ later more. resumes later (keeps_more keeps more))
    (λ later more. rest later (keeps_more keeps more))

-- all of them know the same lengths of messages
pub behind_lengths : {m : Contents} {h : Holding} {began : Began} {context : ℕ} {layout : Layout} {memory : Memory}
    {callers : List Caller} → Behind m h began context layout memory callers → layout.lengths ≡ began.layout.lengths
behind_lengths (nobody_waits same there procedure) = ap (λ (layout : Layout). layout.lengths) there
behind_lengths {memory = memory} (one_waits some few reached going lengths base lends resumes rest) =
    lengths ∙ behind_lengths (rest memory keeps_all)

-- whatever keeps what an activation has keeps what its process began with
pub behind_lifts : {m : Contents} {h : Holding} {began : Began} {context : ℕ} {layout : Layout} {old new : Memory}
    {callers : List Caller} → Behind m h began context layout old callers
    → HoldsNamed m h (scope_of m context layout) old → KeepsMemory m h (scope_of m context layout) old new
    → KeepsMemory m h (scope_of m began.context began.layout) old new
behind_lifts {m} {h} {began} {context = context} {layout = layout} {old = old} {new = new}
    (nobody_waits same there procedure) named keeps =
    subst (λ (layout : Layout). KeepsMemory m h (scope_of m began.context layout) old new) there
    (subst (λ (n : ℕ). KeepsMemory m h (scope_of m n layout) old new) same keeps)
behind_lifts {m} {h} {context = context} {layout = layout} {old = old} {new = new} {callers = caller ∷ callers}
    (one_waits some few reached going lengths base lends resumes rest) named keeps =
    behind_lifts (rest old keeps_all) (resumes old keeps_all).named
    (lift m h (scope_of m caller.state.context caller.act.layout) (scope_of m context layout) base lends old new named
    keeps)

-- a holding that has what an activation names has what its process began with
pub behind_named : {m : Contents} {h : Holding} {began : Began} {context : ℕ} {layout : Layout} {memory : Memory}
    {callers : List Caller} → Behind m h began context layout memory callers
    → HoldsNamed m h (scope_of m context layout) memory → HoldsNamed m h (scope_of m began.context began.layout) memory
behind_named {m} {h} {began} {layout = layout} {memory = memory} (nobody_waits same there procedure) named =
    subst (λ (layout : Layout). HoldsNamed m h (scope_of m began.context layout) memory) there
    (subst (λ (n : ℕ). HoldsNamed m h (scope_of m n layout) memory) same named)
behind_named {memory = memory} {callers = caller ∷ callers}
    (one_waits some few reached going lengths base lends resumes rest) named =
    behind_named (rest memory keeps_all) (resumes memory keeps_all).named

-- so it is in each mode, by what the activation has in it
pub behind_in_keeps : {m : Contents} {h : Holding} (began : Began) (mode : Mode) (context : ℕ) (layout : Layout)
    (callers : List Caller) {old new : Memory} → KeepsMemory m h (scope_among m context mode layout) old new
    → BehindIn m h began mode context layout old callers → BehindIn m h began mode context layout new callers
behind_in_keeps began Plain context layout callers keeps behind = behind_keeps keeps behind
behind_in_keeps began Enabling context layout callers keeps behind = behind_keeps keeps behind
behind_in_keeps began (Disabling done) context layout callers keeps behind = behind_keeps keeps behind
behind_in_keeps began (Starting row started) context layout callers keeps behind = tt

-- those that wait for a return, where no branch is started
pub behind_as : {m : Contents} {h : Holding} {began : Began} (q : Mode) {context : ℕ} {layout : Layout}
    {memory : Memory} {callers : List Caller} → is_starting q ≡ false → Behind m h began context layout memory callers
    → BehindIn m h began q context layout memory callers
behind_as Plain still behind = behind
behind_as Enabling still behind = behind
behind_as (Disabling done) still behind = behind
behind_as (Starting row started) still behind = absurd (cc)

pub behind_of : {m : Contents} {h : Holding} {began : Began} (q : Mode) {context : ℕ} {layout : Layout}
    {memory : Memory} {callers : List Caller} → is_starting q ≡ false
    → BehindIn m h began q context layout memory callers → Behind m h began context layout memory callers
behind_of Plain still behind = behind
behind_of Enabling still behind = behind
behind_of (Disabling done) still behind = behind
behind_of (Starting row started) still behind = absurd (cc)
