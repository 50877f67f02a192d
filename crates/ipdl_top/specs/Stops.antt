-- How reading a source ends.
use Rattle.std.specs.Prelude.{◌≡◌, ℕ, ◌≤◌, List, length, Option}
use Rattle.std.specs.Io.KnownBytes.{IsAtEnd}
use Rattle.ipdl_io.specs.Faults.{MayHaveRisen}
use Rattle.ipdl_top.specs.declared.transfer.ReadStop.{ReadStop}
use Rattle.ipdl_top.specs.declared.transfer.ReadStop.TheVariants.{Fault, TooMany, Memory}
use Rattle.ipdl_top.specs.Transfers.{source_limit, Gave, GaveSome, GaveTooMany}

-- the source was read to its end, and gave these bytes
abbrev pub IsReadWhole : List ℕ → Option (List ℕ) → Option (List ℕ) → ℕ → ℕ → Type 0
IsReadWhole bytes left left' faults faults' =
    (length bytes ≤ source_limit) × Gave left left' bytes × IsAtEnd left' × (faults' ≡ faults)

-- reading stopped before the end
abbrev pub IsReadStopped : ReadStop → Option (List ℕ) → Option (List ℕ) → ℕ → ℕ → Type 0
IsReadStopped Fault left left' faults faults' =
    GaveSome left left' × (faults ≤ faults') × MayHaveRisen faults faults'
IsReadStopped TooMany left left' faults faults' = GaveTooMany left left' × (faults' ≡ faults)
IsReadStopped Memory left left' faults faults' = GaveSome left left' × (faults' ≡ faults)
