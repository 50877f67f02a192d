-- The words in front of terms are names.
use Rattle.std.proofs.Common.{◌≡◌, true, refl}
use Rattle.std.specs.Prelude.{codes}
use Rattle.ipdl_base.specs.Names.{is_name}
use Rattle.ipdl_printing.proofs.PlainNames.{is_name-word}

pub is_name-xor : is_name (codes "xor") ≡ true
is_name-xor = is_name-word (codes "xor") refl

pub is_name-and : is_name (codes "and") ≡ true
is_name-and = is_name-word (codes "and") refl

pub is_name-not : is_name (codes "not") ≡ true
is_name-not = is_name-word (codes "not") refl

pub is_name-cat : is_name (codes "cat") ≡ true
is_name-cat = is_name-word (codes "cat") refl

pub is_name-cut : is_name (codes "cut") ≡ true
is_name-cut = is_name-word (codes "cut") refl

pub is_name-eq : is_name (codes "eq") ≡ true
is_name-eq = is_name-word (codes "eq") refl

pub is_name-mux : is_name (codes "mux") ≡ true
is_name-mux = is_name-word (codes "mux") refl

pub is_name-ret : is_name (codes "ret") ≡ true
is_name-ret = is_name-word (codes "ret") refl

pub is_name-flip : is_name (codes "flip") ≡ true
is_name-flip = is_name-word (codes "flip") refl

pub is_name-read : is_name (codes "read") ≡ true
is_name-read = is_name-word (codes "read") refl

pub is_name-if : is_name (codes "if") ≡ true
is_name-if = is_name-word (codes "if") refl

pub is_name-bind : is_name (codes "bind") ≡ true
is_name-bind = is_name-word (codes "bind") refl

pub is_name-nil : is_name (codes "nil") ≡ true
is_name-nil = is_name-word (codes "nil") refl

pub is_name-out : is_name (codes "out") ≡ true
is_name-out = is_name-word (codes "out") refl

pub is_name-par : is_name (codes "par") ≡ true
is_name-par = is_name-word (codes "par") refl

pub is_name-new : is_name (codes "new") ≡ true
is_name-new = is_name-word (codes "new") refl

pub is_name-hole : is_name (codes "hole") ≡ true
is_name-hole = is_name-word (codes "hole") refl
