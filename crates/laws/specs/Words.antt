-- Words are bytes place by place: the two-place buffer of pairs of elements is two buffers under one count.
use Rattle.std.specs.Prelude.{ℕ, ◌≡◌, refl, Bool, true, false, eqb, ltb, if◌then◌else◌}
use Rattle.port.specs.Buffering.{Places, stored_at, removed_at, oldest_at, filled_at, taken_at, latched_at}

abbrev pub zip : {X Y : Type 0} → Places X → Places Y → Places (X × Y)
zip p q = record {
  latch = (p.latch, q.latch);
  initial = (p.initial, q.initial);
  first = (p.first, q.first);
  second = (p.second, q.second);
  last = (p.last, q.last);
}

-- a choice of words is a choice of each part
choose : {X Y Z : Type 0} (f : X → Y → Z) (b : Bool) (x x' : X) (y y' : Y) → (if b then f x y else f x' y') ≡ f (if b then x else x') (if b then y else y')
choose f true x x' y y' = refl
choose f false x x' y y' = refl

choose_2 : {X Y Z : Type 0} (f : X → Y → Z) (b c : Bool) (x x' x'' : X) (y y' y'' : Y)
    → (if b then f x y else if c then f x' y' else f x'' y'') ≡ f (if b then x else if c then x' else x'') (if b then y else if c then y' else y'')
choose_2 f true c x x' x'' y y' y'' = refl
choose_2 f false true x x' x'' y y' y'' = refl
choose_2 f false false x x' x'' y y' y'' = refl

pub stored_words : {X Y : Type 0} (held : ℕ) (p : Places X) (q : Places Y) (x : X) (y : Y) → stored_at held (zip p q) (x, y) ≡ zip (stored_at held p x) (stored_at held q y)
stored_words held p q x y = choose zip (eqb held 0) _ _ _ _

pub removed_words : {X Y : Type 0} (held : ℕ) (p : Places X) (q : Places Y) → removed_at held (zip p q) ≡ zip (removed_at held p) (removed_at held q)
removed_words held p q = choose zip (eqb held 0) _ _ _ _

pub oldest_words : {X Y : Type 0} (held : ℕ) (p : Places X) (q : Places Y) → oldest_at held (zip p q) ≡ (oldest_at held p, oldest_at held q)
oldest_words {X} {Y} held p q = choose (λ (x : X) (y : Y). (x, y)) (eqb held 0) _ _ _ _

pub filled_words : {X Y : Type 0} (held : ℕ) (p : Places X) (q : Places Y) (x : X) (y : Y) → filled_at held (zip p q) (x, y) ≡ zip (filled_at held p x) (filled_at held q y)
filled_words held p q x y = choose_2 zip (eqb held 0) (eqb held 1) _ _ _ _ _ _

pub taken_words : {X Y : Type 0} (held : ℕ) (p : Places X) (q : Places Y) → taken_at held (zip p q) ≡ zip (taken_at held p) (taken_at held q)
taken_words held p q = choose zip (ltb 1 held) _ _ _ _

pub latched_words : {X Y : Type 0} (p : Places X) (q : Places Y) (x : X) (y : Y) → latched_at (zip p q) (x, y) ≡ zip (latched_at p x) (latched_at q y)
latched_words p q x y = refl
