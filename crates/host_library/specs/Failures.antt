-- Why a host gets no answer.
use Rattle.std.specs.Prelude.{⊤, ℕ, ◌==◌, if◌then◌else◌, List}
use Rattle.module_format.specs.declared.fault.FormatFault.{FormatFault}
use Rattle.module_format.specs.declared.fault.TheConstants as file_faults
use Rattle.states.specs.declared.rule.TheConstants as rules
use Rattle.verifier.specs.declared.Refusal.{Refusal}
use Rattle.host_library.specs.declared.failure.HostFailure.{HostFailure}
use Rattle.host_library.specs.declared.failure.HostFailure.TheVariants.{NoFile, Uncertified, NoEvent, Memory}
use Rattle.host_library.specs.declared.status.TheConstants.{NO_MODULE, NOT_CERTIFIED, OUT_OF_MEMORY, NO_EVENT}
use Rattle.host_library.specs.Files.{IsNoFile, IsRefusedFile}

-- the failure where a file is no module
abbrev pub failure_of_file : FormatFault → HostFailure
failure_of_file fault = if fault.number == file_faults.MEMORY then Memory else NoFile fault

-- the failure where a module is refused
abbrev pub failure_of_module : Refusal → HostFailure
failure_of_module refusal = if refusal.number == rules.MEMORY then Memory else Uncertified refusal

-- its status
abbrev pub status_of : HostFailure → ℕ
status_of (NoFile fault) = NO_MODULE
status_of (Uncertified refusal) = NOT_CERTIFIED
status_of (NoEvent index) = NO_EVENT
status_of Memory = OUT_OF_MEMORY

-- the number that is left where this one was
abbrev pub number_told : HostFailure → ℕ → ℕ
number_told (NoFile fault) before = fault.number
number_told (Uncertified refusal) before = refusal.number
number_told (NoEvent index) before = before
number_told Memory before = before

-- the same of an offset
abbrev pub offset_told : HostFailure → ℕ → ℕ
offset_told (NoFile fault) before = fault.offset
offset_told (Uncertified refusal) before = refusal.offset
offset_told (NoEvent index) before = index
offset_told Memory before = before

-- Why nothing is answered of these bytes: what may be said of an event that is none is passed.
abbrev pub Withholds : List ℕ → (ℕ → Type 0) → HostFailure → Type 0
Withholds bytes is_no_event (NoFile fault) = IsNoFile bytes fault.number fault.offset
Withholds bytes is_no_event (Uncertified refusal) = IsRefusedFile bytes refusal.number refusal.offset
Withholds bytes is_no_event (NoEvent index) = is_no_event index
Withholds bytes is_no_event Memory = ⊤

-- the same where only events are read
abbrev pub IsOfEvents : (ℕ → Type 0) → HostFailure → Type 0
IsOfEvents is_no_event (NoFile fault) = ⊥
IsOfEvents is_no_event (Uncertified refusal) = ⊥
IsOfEvents is_no_event (NoEvent index) = is_no_event index
IsOfEvents is_no_event Memory = ⊤

-- neither the file nor the module is refused
abbrev pub IsNoRefusal : HostFailure → Type 0
IsNoRefusal (NoFile fault) = ⊥
IsNoRefusal (Uncertified refusal) = ⊥
IsNoRefusal (NoEvent index) = ⊤
IsNoRefusal Memory = ⊤
