-- One of something for each of the four links.
use Rattle.std.specs.Prelude.{Bool, if◌then◌else◌, Option, Some, None}
use Rattle.machine_state.specs.declared.link.Link.{Link}
use Rattle.machine_state.specs.declared.link.Link.TheVariants.{Zero, One, Two, Three}

pub record ByLink (A : Type 0) : Type 0 where
  pub first : A
  pub second : A
  pub third : A
  pub fourth : A

abbrev pub of_link : {A : Type 0} → ByLink A → Link → A
of_link all Zero = all.first
of_link all One = all.second
of_link all Two = all.third
of_link all Three = all.fourth

-- this one for the link, and the others as they were
abbrev pub with_link : {A : Type 0} → Link → A → ByLink A → ByLink A
with_link Zero x all = record all { first = x }
with_link One x all = record all { second = x }
with_link Two x all = record all { third = x }
with_link Three x all = record all { fourth = x }

abbrev pub by_link : {A : Type 0} → (Link → A) → ByLink A
by_link f = record { first = f Zero; second = f One; third = f Two; fourth = f Three }

-- the same for each link
abbrev pub for_all : {A : Type 0} → A → ByLink A
for_all x = record { first = x; second = x; third = x; fourth = x }

-- the lowest link that passes the test
abbrev pub first_link : (Link → Bool) → Option Link
first_link passes =
    if passes Zero then Some Zero
    else if passes One then Some One
    else if passes Two then Some Two
    else if passes Three then Some Three
    else None
