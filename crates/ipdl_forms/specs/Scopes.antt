-- What names stand for where an expression is read.
use Rattle.std.specs.Prelude.{ℕ, suc, ◌+◌, ◌*◌, ◌-◌, ◌^◌, ◌==◌, ◌&&◌, not, nat_le, nat_lt, Bool, List, [], ◌∷◌, bytes_eq, position, Option, Some, None, is_none, option_map, if◌then◌else◌}
use Rattle.ipdl_tree.specs.Trees.{Located, word, number, literal, group}

-- the names of the symbols that are declared before, the first one first; those of the binders around, the innermost
-- first; and whether binders outside of the tree may be named, as in the arguments of a step
pub record NameScope : Type 0 where
  pub symbols : List (List ℕ)
  pub binders : List (List ℕ)
  pub in_step : Bool

-- the scope under one more binder
abbrev pub under_binder : List ℕ → NameScope → NameScope
under_binder name scope =
    record { symbols = scope.symbols; binders = name ∷ scope.binders; in_step = scope.in_step }

-- how far in the list a name stands first
abbrev pub binder_among : List (List ℕ) → List ℕ → Option ℕ
binder_among [] name = None
binder_among (other ∷ others) name =
    if bytes_eq other name then Some 0 else option_map suc (binder_among others name)

-- the number of the symbol that a name is of
abbrev pub symbol_number : NameScope → List ℕ → Option ℕ
symbol_number scope name = position (bytes_eq name) scope.symbols

-- ---- outer variables: `x` and the depth of their binder

abbrev pub is_digit : ℕ → Bool
is_digit c = nat_le 48 c && nat_le c 57

-- the number that goes on with digits, none where it has no such spelling or passes 32 bits
abbrev pub number_on : ℕ → List ℕ → Option ℕ
number_on n [] = Some n
number_on n (d ∷ ds) =
    if is_digit d && (not (n == 0) && nat_lt (10 * n + (d - 48)) (2 ^ 32)) then number_on (10 * n + (d - 48)) ds
    else None

-- the number that digits spell: one digit, or more of which the first is not 0
abbrev pub number_spelled : List ℕ → Option ℕ
number_spelled [] = None
number_spelled (d ∷ ds) = if is_digit d then number_on (d - 48) ds else None

-- the depth that a name `xn` tells
abbrev pub outer_number : List ℕ → Option ℕ
outer_number [] = None
outer_number (c ∷ digits) = if c == 120 then number_spelled digits else None

-- ---- variables

-- the number of the binder that a name has
abbrev pub bound_number : NameScope → List ℕ → Option ℕ
bound_number scope name = binder_among scope.binders name

-- the number of the binder outside that a name has
abbrev pub free_number : NameScope → List ℕ → Option ℕ
free_number scope name =
    if scope.in_step && is_none (bound_number scope name) then outer_number name else None

-- the binder that a tree names
abbrev pub bound_variable : NameScope → Located → Option ℕ
bound_variable scope (word pos name) = bound_number scope name
bound_variable scope (number pos n) = None
bound_variable scope (literal pos bits) = None
bound_variable scope (group pos ts) = None

-- the binder outside that a tree names
abbrev pub free_variable : NameScope → Located → Option ℕ
free_variable scope (word pos name) = free_number scope name
free_variable scope (number pos n) = None
free_variable scope (literal pos bits) = None
free_variable scope (group pos ts) = None
