-- Lists of numbers that stand for forms.
use Rattle.std.proofs.Common.{◌≡◌, ℕ, zero, suc, ◌<◌, ◌≤◌, List, [], ◌∷◌, ◌++◌, Some, length, take, drop, get_or, refl, ap, ap₂, subst, arith}
use Rattle.std.proofs.lemmas.List.{take_all}
use Rattle.std.specs.Prelude.{min, slice_get}
use Rattle.ipdl_linear.proofs.Standing.{FormsStand-kept}
use Rattle.ipdl_linear.specs.Entries.{Entry, FormStands, AllStand, Keeps}
use Rattle.ipdl_linear.specs.LinearForms.{Form, forms_of, bitwise}

pub AllStand-kept : (t u : List Entry) (ns : List ℕ) (fs : List Form) → Keeps t u → AllStand t ns fs → AllStand u ns fs
AllStand-kept t u ns fs keeps h = FormsStand-kept t u keeps (forms_of fs) ns h

pub length-AllStand : (t : List Entry) (ns : List ℕ) (fs : List Form) → AllStand t ns fs → length ns ≡ length fs
length-AllStand t [] [] h = refl
length-AllStand t [] (f ∷ fs) h = absurd h
length-AllStand t (n ∷ ns) [] h = absurd h
length-AllStand t (n ∷ ns) (f ∷ fs) h = ap suc (length-AllStand t ns fs h.1)

-- the form at a place
pub AllStand-at : (t : List Entry) (ns : List ℕ) (fs : List Form) (i : ℕ) → AllStand t ns fs → i < length ns → (f : Form) × (slice_get fs i ≡ Some f) × FormStands t (get_or ns i 0) f
AllStand-at t [] fs i h within = absurd (omega arith)
AllStand-at t (n ∷ ns) [] i h within = absurd h
AllStand-at t (n ∷ ns) (f ∷ fs) zero h within = (f, refl, h.0)
AllStand-at t (n ∷ ns) (f ∷ fs) (suc i) h within = AllStand-at t ns fs i h.1 (omega arith)

-- one form more
pub AllStand-push : (t : List Entry) (ns : List ℕ) (fs : List Form) (i n : ℕ) (f : Form) → AllStand t ns (take i fs) → slice_get fs i ≡ Some f → FormStands t n f → AllStand t (ns ++ n ∷ []) (take (suc i) fs)
AllStand-push t ns [] i n f h at stands = cc
AllStand-push t [] (g ∷ fs) zero n f h at stands = let same : f ≡ g = cc in (subst (FormStands t n) same stands, tt)
AllStand-push t (m ∷ ns) (g ∷ fs) zero n f h at stands = absurd h
AllStand-push t [] (g ∷ fs) (suc i) n f h at stands = absurd h
AllStand-push t (m ∷ ns) (g ∷ fs) (suc i) n f h at stands = (h.0, AllStand-push t ns fs i n f h.1 at stands)

-- all forms
pub AllStand-whole : (t : List Entry) (ns : List ℕ) (fs : List Form) (i : ℕ) → length fs ≤ i → AllStand t ns (take i fs) → AllStand t ns fs
AllStand-whole t ns fs i all h = subst (AllStand t ns) (take_all i fs all) h

pub AllStand-append : (t : List Entry) (ns ms : List ℕ) (fs gs : List Form) → AllStand t ns fs → AllStand t ms gs → AllStand t (ns ++ ms) (fs ++ gs)
AllStand-append t [] ms [] gs h g = g
AllStand-append t [] ms (f ∷ fs) gs h g = absurd h
AllStand-append t (n ∷ ns) ms [] gs h g = absurd h
AllStand-append t (n ∷ ns) ms (f ∷ fs) gs h g = (h.0, AllStand-append t ns ms fs gs h.1 g)

pub AllStand-take : (t : List Entry) (k : ℕ) (ns : List ℕ) (fs : List Form) → AllStand t ns fs → AllStand t (take k ns) (take k fs)
AllStand-take t zero ns fs h = tt
AllStand-take t (suc k) [] [] h = tt
AllStand-take t (suc k) [] (f ∷ fs) h = absurd h
AllStand-take t (suc k) (n ∷ ns) [] h = absurd h
AllStand-take t (suc k) (n ∷ ns) (f ∷ fs) h = (h.0, AllStand-take t k ns fs h.1)

pub AllStand-drop : (t : List Entry) (k : ℕ) (ns : List ℕ) (fs : List Form) → AllStand t ns fs → AllStand t (drop k ns) (drop k fs)
AllStand-drop t zero ns fs h = h
AllStand-drop t (suc k) [] [] h = tt
AllStand-drop t (suc k) [] (f ∷ fs) h = absurd h
AllStand-drop t (suc k) (n ∷ ns) [] h = absurd h
AllStand-drop t (suc k) (n ∷ ns) (f ∷ fs) h = AllStand-drop t k ns fs h.1

-- bit by bit
pub bitwise-at : (op : Form → Form → Form) (fs gs : List Form) (i : ℕ) (f g : Form) → slice_get fs i ≡ Some f → slice_get gs i ≡ Some g → slice_get (bitwise op fs gs) i ≡ Some (op f g)
bitwise-at op [] gs i f g at_f at_g = cc
bitwise-at op (x ∷ fs) [] i f g at_f at_g = cc
bitwise-at op (x ∷ fs) (y ∷ gs) zero f g at_f at_g = let same : x ≡ f = cc in let same' : y ≡ g = cc in ap₂ (λ a b. Some (op a b)) same same'
bitwise-at op (x ∷ fs) (y ∷ gs) (suc i) f g at_f at_g = bitwise-at op fs gs i f g at_f at_g

pub length-bitwise : (op : Form → Form → Form) (fs gs : List Form) → length (bitwise op fs gs) ≤ min (length fs) (length gs)
length-bitwise op [] gs = omega arith
length-bitwise op (f ∷ fs) [] = omega arith
length-bitwise op (f ∷ fs) (g ∷ gs) = let rest = length-bitwise op fs gs in omega arith
