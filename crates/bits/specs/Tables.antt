-- A table: what stands beside a number, or beside several numbers in turn, and what stands for all others.
use Rattle.std.specs.Prelude.{ℕ, ◌+◌, ◌-◌, ◌≤◌, ◌<◌, ◌≡◌, refl, ◌&&◌, List, [], ◌∷◌, eqb, leb, ltb, if◌then◌else◌}
use Rattle.std.proofs.Common.{sym, ◌∙◌, eqb-true, leb-true, ltb-true, eq-eqb, ne_eqb, le-leb, lt-ltb}
use Rattle.std.proofs.lemmas.Bool.{false≢true}
use Rattle.bits.specs.Choice.{branch, both_arms, and_left, and_right, both}

-- one number; or some in turn from a first one on, each by its place among them
pub data Entry (A : Type 0) : Type 0 where
  at : ℕ → A → Entry A
  from : ℕ → ℕ → (ℕ → A) → Entry A

-- what a table says of number r
abbrev pub find : {A : Type 0} → List (Entry A) → A → ℕ → A
find [] other r = other
find (at n x ∷ entries) other r = if eqb r n then x else find entries other r
find (from n count x ∷ entries) other r = if leb n r && ltb r (n + count) then x (r - n) else find entries other r

-- one argument for each entry, and then R
abbrev pub Each : {A : Type 0} → (A → Type 0) → ℕ → List (Entry A) → Type 0 → Type 0
Each P r [] R = R
Each P r (at n x ∷ entries) R = (r ≡ n → P x) → Each P r entries R
Each P r (from n count x ∷ entries) R = (n ≤ r → r < n + count → P (x (r - n))) → Each P r entries R

-- r stands in no entry
abbrev pub Missed : {A : Type 0} → ℕ → List (Entry A) → Type 0
Missed r [] = Unit {0}
Missed r (at n x ∷ entries) = (r ≡ n → ⊥) × Missed r entries
Missed r (from n count x ∷ entries) = (n ≤ r → r < n + count → ⊥) × Missed r entries

anyway : {A : Type 0} (P : A → Type 0) (r : ℕ) (entries : List (Entry A)) {R : Type 0} → R → Each P r entries R
anyway P r [] k = k
anyway P r (at n x ∷ entries) k = λ _. anyway P r entries k
anyway P r (from n count x ∷ entries) k = λ _. anyway P r entries k

-- What holds of each entry, and of what stands for all other numbers, holds of whatever is found.
pub each : {A : Type 0} (P : A → Type 0) (entries : List (Entry A)) (other : A) (r : ℕ) → (Missed r entries → P other) → Each P r entries (P (find entries other r))
each P [] other r base = base tt
each P (at n x ∷ entries) other r base = λ h.
    branch (λ y. Each P r entries (P y)) (eqb r n) x (find entries other r)
    (λ e. anyway P r entries (h (eqb-true r n e)))
    (λ e. each P entries other r (λ m. base ((λ f. false≢true (sym e ∙ eq-eqb r n f)), m)))
each P (from n count x ∷ entries) other r base = λ h.
    branch (λ y. Each P r entries (P y)) (leb n r && ltb r (n + count)) (x (r - n)) (find entries other r)
    (λ e. anyway P r entries (h (leb-true n r (and_left (leb n r) _ e)) (ltb-true r (n + count) (and_right (leb n r) _ e))))
    (λ e. each P entries other r (λ m. base ((λ f g. false≢true (sym e ∙ both (leb n r) _ (le-leb n r f) (lt-ltb r (n + count) g))), m)))

-- a table with everything in it changed
abbrev pub changed : {A B : Type 0} → (A → B) → List (Entry A) → List (Entry B)
changed f [] = []
changed f (at n x ∷ entries) = at n (f x) ∷ changed f entries
changed f (from n count x ∷ entries) = from n count (λ i. f (x i)) ∷ changed f entries

-- What is found, changed, is what is found in the changed table.
pub find_changed : {A B : Type 0} (f : A → B) (entries : List (Entry A)) (other : A) (r : ℕ) → f (find entries other r) ≡ find (changed f entries) (f other) r
find_changed f [] other r = refl
find_changed f (at n x ∷ entries) other r = both_arms (λ y z. f y ≡ z) (eqb r n) _ _ _ _ refl (find_changed f entries other r)
find_changed f (from n count x ∷ entries) other r = both_arms (λ y z. f y ≡ z) (leb n r && ltb r (n + count)) _ _ _ _ refl (find_changed f entries other r)

-- what the rest of a `match` knows: r is none of the single numbers
abbrev pub None : {A : Type 0} → Type 0 → ℕ → List (Entry A) → Type 0
None K r [] = K
None K r (at n x ∷ entries) = None (K × (r ≡ n → ⊥)) r entries
None K r (from n count x ∷ entries) = None K r entries

-- the entries of several numbers alone
abbrev pub spans : {A : Type 0} → List (Entry A) → List (Entry A)
spans [] = []
spans (at n x ∷ entries) = spans entries
spans (from n count x ∷ entries) = from n count x ∷ spans entries

strip : {A : Type 0} (K : Type 0) (r : ℕ) (entries : List (Entry A)) → None K r entries → K
strip K r [] k = k
strip K r (at n x ∷ entries) k = (strip (K × (r ≡ n → ⊥)) r entries k).0
strip K r (from n count x ∷ entries) k = strip K r entries k

pub past_under : {A : Type 0} (K : Type 0) (entries : List (Entry A)) (other : A) (r : ℕ) → None K r entries → find entries other r ≡ find (spans entries) other r
past_under K [] other r k = refl
past_under K (at n x ∷ entries) other r k =
    rw (ne_eqb r n (strip (K × (r ≡ n → ⊥)) r entries k).1) (past_under (K × (r ≡ n → ⊥)) entries other r k)
past_under K (from n count x ∷ entries) other r k = rw (past_under K entries other r k)

-- Past the single numbers, the rest of a `match` finds what the entries of several say.
pub past : {A : Type 0} (entries : List (Entry A)) (other : A) (r : ℕ) → None (Unit {0}) r entries → find entries other r ≡ find (spans entries) other r
past = past_under (Unit {0})

-- A number that stands in no entry is one of all others.
pub missed : {A : Type 0} (entries : List (Entry A)) (other : A) (r : ℕ) → Missed r entries → find entries other r ≡ other
missed [] other r m = refl
missed (at n x ∷ entries) other r m = rw (ne_eqb r n m.0) (missed entries other r m.1)
missed (from n count x ∷ entries) other r m =
    branch (λ y. y ≡ other) (leb n r && ltb r (n + count)) (x (r - n)) (find entries other r)
    (λ e. absurd (m.0 (leb-true n r (and_left (leb n r) _ e)) (ltb-true r (n + count) (and_right (leb n r) _ e))))
    (λ _. missed entries other r m.1)
