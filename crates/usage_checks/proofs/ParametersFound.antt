-- The ends of parameters, found one after another.
use Rattle.std.proofs.Common.{◌≡◌, ℕ, suc, Bool, true, false, cond, List, [], ◌∷◌, ◌++◌, map, nat_eq}
use Rattle.std.proofs.Common.{refl, sym, ap, ◌∙◌, append_assoc}
use Rattle.std.specs.Prelude.{fold}
use Rattle.std.proofs.lemmas.List.{append-nil}
use Rattle.occam_parser.specs.Lines.{Formal}
use Rattle.scalar_ranges.specs.Entries.{Entry, Meaning}
use Rattle.program_uses.specs.declared.ends.ChannelEnd.{ChannelEnd}
use Rattle.program_uses.specs.declared.uses.End.{End}
use Rattle.program_uses.specs.Declaring.{formal_meaning}
use Rattle.program_uses.specs.Ends.{ends_at, with_end}
use Rattle.program_uses.specs.Signatures.{Parameter}
use Rattle.usage_checks.specs.FormalRules.{parameter_for}
use Rattle.usage_checks.specs.ItemRules.{parameters_from}

last_of_either : {A : Type 0} (s t : Bool) (x y : A) (xs all : List A) → all ≡ cond t (xs ++ y ∷ []) xs
    → cond s (x ∷ all) all ≡ cond t (cond s (x ∷ xs) xs ++ y ∷ []) (cond s (x ∷ xs) xs)
last_of_either true true x y xs all is = ap (λ zs. x ∷ zs) is
last_of_either true false x y xs all is = ap (λ zs. x ∷ zs) is
last_of_either false true x y xs all is = is
last_of_either false false x y xs all is = is

ends_last : (number : ℕ) (ds : List ChannelEnd) (d : ChannelEnd)
    → ends_at number (ds ++ d ∷ [])
    ≡ cond (nat_eq d.channel number) (ends_at number ds ++ d.end ∷ []) (ends_at number ds)
ends_last number [] d = refl
ends_last number (x ∷ ds) d =
    last_of_either (nat_eq x.channel number) (nat_eq d.channel number) x.end d.end (ends_at number ds)
    (ends_at number (ds ++ d ∷ [])) (ends_last number ds d)

with_either : (t : Bool) (m : Meaning) (xs ys : List End)
    → cond {A = Parameter} t (record { meaning = m; ends = xs }) (record { meaning = m; ends = ys })
    ≡ record { meaning = m; ends = cond t xs ys }
with_either true m xs ys = refl
with_either false m xs ys = refl

found_next : (es : List Entry) (number : ℕ) (ds : List ChannelEnd) (d : ChannelEnd) (fs : List Formal)
    → with_end number (parameters_from es number ds fs) d ≡ parameters_from es number (ds ++ d ∷ []) fs
found_next es number ds d [] = refl
found_next es number ds d (f ∷ fs) =
    let m = formal_meaning es f in
    let one = with_either (nat_eq d.channel number) m (ends_at number ds ++ d.end ∷ []) (ends_at number ds)
    ∙ (λ i. record { meaning = m; ends = sym (ends_last number ds d) i }) in
    λ i. one i ∷ found_next es (suc number) ds d fs i

found_more : (es : List Entry) (number : ℕ) (before ds : List ChannelEnd) (fs : List Formal)
    → fold (with_end number) (parameters_from es number before fs) ds ≡ parameters_from es number (before ++ ds) fs
found_more es number before [] fs = ap (λ ds. parameters_from es number ds fs) (sym (append-nil before))
found_more es number before (d ∷ ds) fs =
    ap (λ qs. fold (with_end number) qs ds) (found_next es number before d fs)
    ∙ found_more es number (before ++ d ∷ []) ds fs
    ∙ ap (λ ds. parameters_from es number ds fs) (append_assoc before (d ∷ []) ds)

by_their_head : (es : List Entry) (number : ℕ) (fs : List Formal)
    → map (parameter_for es) fs ≡ parameters_from es number [] fs
by_their_head es number [] = refl
by_their_head es number (f ∷ fs) = ap (λ qs. parameter_for es f ∷ qs) (by_their_head es (suc number) fs)

pub all_found : (es : List Entry) (number : ℕ) (ds : List ChannelEnd) (fs : List Formal)
    → fold (with_end number) (map (parameter_for es) fs) ds ≡ parameters_from es number ds fs
all_found es number ds fs =
    ap (λ qs. fold (with_end number) qs ds) (by_their_head es number fs) ∙ found_more es number [] ds fs
