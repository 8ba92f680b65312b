-- How often labels are among others, and which pieces of some lead where they should.
use Rattle.std.proofs.Common.{◌≡◌, ◌≢◌, ◌<◌, ◌≤◌, ℕ, ◌+◌, Bool, List, [], ◌∷◌, ◌++◌, Option}
use Rattle.std.proofs.Common.{None, refl, sym, ap, ◌∙◌, arith, inl, inr}
use Rattle.std.specs.Prelude.{if◌then◌else◌}
use Rattle.std.specs.List.{AllByRecursion}
use Rattle.std.specs.Option.{option_to_list}
use Rattle.std.proofs.lemmas.Bool.{cases_lt}
use Rattle.std.proofs.lemmas.Bool.Decides.{eqb_tells}
use Rattle.std.proofs.lemmas.List.{append_assoc}
use Rattle.machine_state.specs.Waiting.{IsAbsent, AllDiffer}
use Rattle.code_pieces.specs.Pieces.{Piece, Direct, Jump, JumpUnless, LoopBack, Distance, StartBranch, Select}
use Rattle.code_pieces.specs.Pieces.{TableAddress, Row, Place, Within, Par}
use Rattle.code_pieces.specs.Placing.{label_in}
use Rattle.placed_code.specs.LaidCode.{labels_in}
use Rattle.meant_code.specs.Labels.{same, times_in, EachOnce, IsStraight, AreStraight, IsPlain, ArePlain}
use Rattle.meant_code.specs.Labels.{Leads, AllLead}

-- ---- how often

pub same_is : (l m : ℕ) → l ≡ m → same l m ≡ 1
same_is l m is = elim (eqb_tells l m) [
  | inl there ↦ ap (λ (b : Bool). if b then 1 else 0) there.0
  | inr other ↦ absurd (other.1 is)
]

differs : (l m : ℕ) → l ≢ m → same l m ≡ 0
differs l m other = elim (eqb_tells l m) [
  | inl there ↦ absurd (other there.1)
  | inr is ↦ ap (λ (b : Bool). if b then 1 else 0) is.0
]

pub times_both : (l : ℕ) (ls ms : List ℕ) → times_in l (ls ++ ms) ≡ times_in l ls + times_in l ms
times_both l [] ms = omega arith
times_both l (k ∷ ls) ms =
    let rest = times_both l ls ms in
    omega (arith, rest)

pub labels_both : (ps qs : List Piece) → labels_in (ps ++ qs) ≡ labels_in ps ++ labels_in qs
labels_both [] qs = refl
labels_both (p ∷ ps) qs =
    ap (λ (ls : List ℕ). option_to_list (label_in p) ++ ls) (labels_both ps qs)
    ∙ sym (append_assoc (option_to_list (label_in p)) (labels_in ps) (labels_in qs))

pub times_in_both : (l : ℕ) (ps qs : List Piece)
    → times_in l (labels_in (ps ++ qs)) ≡ times_in l (labels_in ps) + times_in l (labels_in qs)
times_in_both l ps qs =
    ap (λ (ls : List ℕ). times_in l ls) (labels_both ps qs) ∙ times_both l (labels_in ps) (labels_in qs)

-- ---- each once

pub none_once : (n : ℕ) → EachOnce n n []
none_once n = record {
  rises = omega arith;
  inside = λ l from to. absurd (omega (arith, from, to));
  below = λ l less. refl;
  above = λ l more. refl;
}

pub one_once : (n : ℕ) → EachOnce n (n + 1) (n ∷ [])
one_once n = record {
  rises = omega arith;
  inside = λ l from to. ap (λ (k : ℕ). k + 0) (same_is l n (omega (arith, from, to)));
  below = λ l less. ap (λ (k : ℕ). k + 0) (differs l n (λ is. absurd (omega (arith, less, is))));
  above = λ l more. ap (λ (k : ℕ). k + 0) (differs l n (λ is. absurd (omega (arith, more, is))));
}

pub both_once : (a b c : ℕ) (ls ms : List ℕ) → EachOnce a b ls → EachOnce b c ms → EachOnce a c (ls ++ ms)
both_once a b c ls ms first second =
    let lower = first.rises in
    let upper = second.rises in
    record {
      rises = omega (arith, lower, upper);
      inside = λ l from to. elim (cases_lt l b) [
        | inl less ↦
            let here = first.inside l from less in
            let there = second.below l less in
            let sum = times_both l ls ms in
            omega (arith, here, there, sum)
        | inr more ↦
            let here = first.above l more in
            let there = second.inside l more to in
            let sum = times_both l ls ms in
            omega (arith, here, there, sum)
      ];
      below = λ l less.
          let here = first.below l less in
          let there = second.below l (omega (arith, less, lower)) in
          let sum = times_both l ls ms in
          omega (arith, here, there, sum);
      above = λ l more.
          let here = first.above l (omega (arith, more, upper)) in
          let there = second.above l more in
          let sum = times_both l ls ms in
          omega (arith, here, there, sum);
    }

-- in another order
pub ordered_once : (a b : ℕ) (ls ms : List ℕ) → ((l : ℕ) → times_in l ls ≡ times_in l ms) → EachOnce a b ls
    → EachOnce a b ms
ordered_once a b ls ms same_times once = record {
  rises = once.rises;
  inside = λ l from to. sym (same_times l) ∙ once.inside l from to;
  below = λ l less. sym (same_times l) ∙ once.below l less;
  above = λ l more. sym (same_times l) ∙ once.above l more;
}

-- what is there once at most differs
absent : (l : ℕ) (ls : List ℕ) → times_in l ls ≡ 0 → IsAbsent l ls
absent l [] none = tt
absent l (m ∷ ls) none =
    ((λ is. let there = same_is l m is in absurd (omega (arith, none, there))), absent l ls (omega (arith, none)))

all_differ : (ls : List ℕ) → ((l : ℕ) → times_in l ls ≤ 1) → AllDiffer ls
all_differ [] few = tt
all_differ (m ∷ ls) few =
    let here = same_is m m refl in
    let most = few m in
    (absent m ls (omega (arith, here, most)), all_differ ls (λ l. let all = few l in omega (arith, all)))

all_below : (to : ℕ) (ls : List ℕ) → ((l : ℕ) → to ≤ l → times_in l ls ≡ 0) → AllByRecursion (λ l. l < to) ls
all_below to [] none = tt
all_below to (m ∷ ls) none = (
  elim (cases_lt m to) [
    | inl less ↦ less
    | inr more ↦
        let here = same_is m m refl in
        let all = none m more in
        absurd (omega (arith, here, all))
  ],
  all_below to ls (λ l more. let all = none l more in omega (arith, all)),
)

pub most_once : (a b : ℕ) (ls : List ℕ) → EachOnce a b ls → (l : ℕ) → times_in l ls ≤ 1
most_once a b ls once l = elim (cases_lt l a) [
  | inl less ↦ let none = once.below l less in omega (arith, none)
  | inr from ↦ elim (cases_lt l b) [
    | inl to ↦ let is = once.inside l from to in omega (arith, is)
    | inr more ↦ let none = once.above l more in omega (arith, none)
  ]
]

pub once_differ : (a b : ℕ) (ls : List ℕ) → EachOnce a b ls → AllDiffer ls
once_differ a b ls once = all_differ ls (most_once a b ls once)

pub once_below : (a b : ℕ) (ls : List ℕ) → EachOnce a b ls → AllByRecursion (λ l. l < b) ls
once_below a b ls once = all_below b ls once.above

-- ---- where pieces lead

-- what is among the ones is among the others
abbrev pub Among : List ℕ → List ℕ → Type 0
Among ls ms = (l : ℕ) → 1 ≤ times_in l ls → 1 ≤ times_in l ms

pub leads_more : (before after others further : List ℕ) (p : Piece) → Among before others → Among after further
    → Leads before after p → Leads others further p
leads_more before after others further (Jump to) first second leads = second to leads
leads_more before after others further (JumpUnless to) first second leads = second to leads
leads_more before after others further (LoopBack head behind) first second leads =
    (first head leads.0, second behind leads.1)
leads_more before after others further (Direct f e) first second leads = tt
leads_more before after others further (Distance from to) first second leads = tt
leads_more before after others further (StartBranch entry successor) first second leads = tt
leads_more before after others further (Select targets) first second leads = tt
leads_more before after others further (TableAddress values) first second leads = tt
leads_more before after others further (Row l entries) first second leads = tt
leads_more before after others further (Place l) first second leads = tt
leads_more before after others further (Within workspace) first second leads = tt
leads_more before after others further (Par par) first second leads = tt

among_behind : (ks ls ms : List ℕ) → Among ls ms → Among (ks ++ ls) (ks ++ ms)
among_behind ks ls ms all l there =
    let first = times_both l ks ls in
    let second = times_both l ks ms in
    elim (cases_lt (times_in l ls) 1) [
      | inl none ↦ omega (arith, first, second, there, none)
      | inr some ↦ let more = all l some in omega (arith, first, second, more)
    ]

pub lead_more : (before after others further : List ℕ) (ps : List Piece) → Among before others → Among after further
    → AllLead before after ps → AllLead others further ps
lead_more before after others further [] first second lead = tt
lead_more before after others further (p ∷ ps) first second lead = (
  leads_more before (labels_in ps ++ after) others (labels_in ps ++ further) p first
      (among_behind (labels_in ps) after further second) lead.0,
  lead_more (option_to_list (label_in p) ++ before) after (option_to_list (label_in p) ++ others) further ps
      (among_behind (option_to_list (label_in p)) before others first) second lead.1,
)

pub lead_both : (before after : List ℕ) (ps qs : List Piece) → AllLead before (labels_in qs ++ after) ps
    → AllLead (labels_in ps ++ before) after qs → AllLead before after (ps ++ qs)
lead_both before after [] qs first second = second
lead_both before after (p ∷ ps) qs first second =
    let own = option_to_list (label_in p) in (
      leads_more before (labels_in ps ++ (labels_in qs ++ after)) before (labels_in (ps ++ qs) ++ after) p
          (λ l there. there)
          (λ l there.
          let here = times_both l (labels_in ps) (labels_in qs ++ after) in
          let rest = times_both l (labels_in qs) after in
          let all = times_both l (labels_in (ps ++ qs)) after in
          let both = times_in_both l ps qs in
          omega (arith, there, here, rest, all, both)) first.0,
      lead_both (own ++ before) after ps qs first.1
          (lead_more ((own ++ labels_in ps) ++ before) after (labels_in ps ++ (own ++ before)) after qs
          (λ l there.
          let a = times_both l (own ++ labels_in ps) before in
          let b = times_both l own (labels_in ps) in
          let c = times_both l (labels_in ps) (own ++ before) in
          let d = times_both l own before in
          omega (arith, there, a, b, c, d)) (λ l there. there) second),
    )

-- ---- straight pieces

pub straight_label : (p : Piece) → IsStraight p → label_in p ≡ None
straight_label (Direct f e) is = refl
straight_label (TableAddress values) is = refl
straight_label p is = absurd is

pub straight_plain : (p : Piece) → IsStraight p → IsPlain p
straight_plain (Direct f e) is = is
straight_plain (TableAddress values) is = tt
straight_plain p is = absurd is

pub straight_leads : (before after : List ℕ) (p : Piece) → IsStraight p → Leads before after p
straight_leads before after (Direct f e) is = tt
straight_leads before after (TableAddress values) is = tt
straight_leads before after p is = absurd is

pub no_labels : (ps : List Piece) → AreStraight ps → labels_in ps ≡ []
no_labels [] are = refl
no_labels (p ∷ ps) are =
    ap (λ (o : Option ℕ). option_to_list o ++ labels_in ps) (straight_label p are.0) ∙ no_labels ps are.1

pub straight_are_plain : (ps : List Piece) → AreStraight ps → ArePlain ps
straight_are_plain [] are = tt
straight_are_plain (p ∷ ps) are = (straight_plain p are.0, straight_are_plain ps are.1)

pub straight_lead : (before after : List ℕ) (ps : List Piece) → AreStraight ps → AllLead before after ps
straight_lead before after [] are = tt
straight_lead before after (p ∷ ps) are = (
  straight_leads before (labels_in ps ++ after) p are.0,
  straight_lead (option_to_list (label_in p) ++ before) after ps are.1,
)
