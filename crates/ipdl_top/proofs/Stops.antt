-- A stop that is a refusal is also each refusal that is the same.
use Rattle.std.proofs.Common.{◌≡◌, Option, Some, None, Result, sym, subst}
use Rattle.std.specs.Option.{option_or}
use Rattle.ipdl_top.specs.Statuses.{Refusal}
use Rattle.ipdl_top.specs.Told.{IsStop, Tests}
use Rattle.ipdl_top.specs.declared.refusal.Stop.{Stop}
use Rattle.ipdl_top.specs.declared.refusal.Stop.TheVariants.{Refused, Memory}

-- the first of two refusals is that of both
pub IsStop-first : (stop : Stop) (first later : Option Refusal) → IsStop stop first → IsStop stop (option_or first later)
IsStop-first (Refused held) None later e = cc
IsStop-first (Refused held) (Some r) later e = e
IsStop-first Memory first later e = tt

pub IsStop-same : (stop : Stop) (x y : Option Refusal) → x ≡ y → IsStop stop y → IsStop stop x
IsStop-same stop x y e is = subst (IsStop stop) (sym e) is

pub Tests-same : {A : Type 0} (result : Result A Stop) (x y : Option Refusal) → x ≡ y → Tests result y → Tests result x
Tests-same result x y e is = subst (Tests result) (sym e) is
