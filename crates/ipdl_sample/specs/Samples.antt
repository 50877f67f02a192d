-- The sample documents: for each number below a count, two protocols and the theorem that they are equal.
use Rattle.std.specs.Prelude.{ℕ, zero, suc, ◌+◌, ◌%◌, List, [], ◌++◌, codes}
use Rattle.std.specs.Fmt.{decimal}

-- the width of the message of a number: 1 to 128, and again
abbrev pub width_of : ℕ → ℕ
width_of i = i % 128 + 1

-- an input m and an output c
abbrev pub ports_text : (width : ℕ) → List ℕ
ports_text w =
    codes " (inputs (m " ++ decimal w
    ++ codes ")) (outputs (c " ++ decimal w
    ++ codes "))"

-- a message is written as its exclusive or with a random key
abbrev pub left_text : (number width : ℕ) → List ℕ
left_text i w =
    codes "(protocol L" ++ decimal i
    ++ ports_text w
    ++ codes " (new ((k " ++ decimal w
    ++ codes ")) (par (out c (bind x " ++ decimal w
    ++ codes " (read m) (bind y " ++ decimal w
    ++ codes " (read k) (ret (xor x y))))) (out k (flip " ++ decimal w
    ++ codes ")))))"

-- random bits are written once the message is there
abbrev pub right_text : (number width : ℕ) → List ℕ
right_text i w =
    codes "(protocol R" ++ decimal i
    ++ ports_text w
    ++ codes " (out c (bind x " ++ decimal w
    ++ codes " (read m) (flip " ++ decimal w
    ++ codes "))))"

-- the two are equal
abbrev pub theorem_text : (number : ℕ) → List ℕ
theorem_text i =
    codes "(theorem T" ++ decimal i
    ++ codes " L" ++ decimal i
    ++ codes " R" ++ decimal i
    ++ codes " (left (fold () (1 0)) (mask (0 1) x0) (lin (0 1 1 0) x1) (eta (0 1))) (right))"

-- the three items of a number, each behind a blank
abbrev pub entry_text : (number : ℕ) → List ℕ
entry_text i =
    codes " " ++ left_text i (width_of i)
    ++ codes " " ++ right_text i (width_of i)
    ++ codes " " ++ theorem_text i

-- the items of so many numbers from a first one on
abbrev pub items_text : (from count : ℕ) → List ℕ
items_text i zero = []
items_text i (suc more) = entry_text i ++ items_text (suc i) more

-- `(ipdl 1 ITEM ITEM ..)`
abbrev pub sample_text : (count : ℕ) → List ℕ
sample_text count = codes "(ipdl 1" ++ items_text 0 count ++ codes ")"
