-- Which fault of the program tells which refusal.
use Rattle.std.specs.Prelude.{◌≡◌, ℕ, Option, Some, option_map, Result, Ok, Err}
use Rattle.ipdl_base.specs.declared.limit.Pos.{Pos}
use Rattle.ipdl_tree.specs.declared.fault.SpellCause.{SpellCause}
use Rattle.ipdl_tree.specs.declared.fault.SpellCause.TheVariants.{BadByte, BadName, Unclosed, Extra, NoText}
use Rattle.ipdl_tree.specs.declared.fault.TreeFault.{TreeFault}
use Rattle.ipdl_tree.specs.declared.fault.TreeFault.TheVariants.{Spell, Deep, Memory}
use Rattle.ipdl_tree.specs.Causes.{Cause, bad_byte, bad_name, unclosed, extra, no_text, deep}

-- the program's value of an offset
abbrev pub pos : ℕ → Pos
pos offset = record { 0 = offset }

-- the fault that tells a refusal
abbrev pub fault_of : (ℕ × Cause) → TreeFault
fault_of refused = by_cause refused.1
  where
    by_cause : Cause → TreeFault
    by_cause bad_byte = Spell (pos refused.0) BadByte
    by_cause bad_name = Spell (pos refused.0) BadName
    by_cause unclosed = Spell (pos refused.0) Unclosed
    by_cause extra = Spell (pos refused.0) Extra
    by_cause no_text = Spell (pos refused.0) NoText
    by_cause deep = Deep (pos refused.0)

-- the fault is that of the refusal, or memory ran out
abbrev pub IsFaultOf : Option (ℕ × Cause) → TreeFault → Type 0
IsFaultOf refused Memory = Unit {0}
IsFaultOf refused (Spell p cause) = option_map fault_of refused ≡ Some (Spell p cause)
IsFaultOf refused (Deep p) = option_map fault_of refused ≡ Some (Deep p)

-- the cause of a refusal that a fault of the spelling tells
abbrev pub cause_of : SpellCause → Cause
cause_of BadByte = bad_byte
cause_of BadName = bad_name
cause_of Unclosed = unclosed
cause_of Extra = extra
cause_of NoText = no_text

-- What a function returned, seen by view, is what reading gives, unless memory ran out.
abbrev pub Fails : {Y : Type 0} → TreeFault → Result Y (ℕ × Cause) → Type 0
Fails Memory read = Unit {0}
Fails (Spell p cause) read = read ≡ Err (p.0, cause_of cause)
Fails (Deep p) read = read ≡ Err (p.0, deep)

abbrev pub Gives : {X Y : Type 0} → (X → Y) → Result X TreeFault → Result Y (ℕ × Cause) → Type 0
Gives view (Ok x) read = read ≡ Ok (view x)
Gives view (Err e) read = Fails e read
