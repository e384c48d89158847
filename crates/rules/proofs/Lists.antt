-- Laws of specs/Lists: what holds of each element, tests of every place, what a tabulated list holds, and keeping the first or the last n.
use mathlib.Core.Path.{◌≡◌, refl, sym, ap, ap₂, subst, ◌∙◌}
use mathlib.Core.Logic.{◌↔◌}
use mathlib.Core.Bool.{Bool, true, false, ◌&&◌, true≢false}
use mathlib.Core.List.{List, [], ◌∷◌, ◌++◌, map, Memᴰ}
use Prim.Native.Nat.{ℕ, zero, suc, ◌+◌, ◌-◌, ◌≤◌, ◌<◌, zero-le, suc-le-suc}
use native.Mathlib.Nat.{le_of_suc-le-suc, not-suc-le-zero}
use native.Mathlib.Numerals.{add-one}
use native.Mathlib.Omega.{arith}
use lib.Dec.{T}
use lib.ListN.{length, get_or, take, drop, length-append, length-drop, length-map}
use lib.Seq.{drop-append-le, drop-drop}
use mir.Facts.{and_yes, yes_and}
use Rattle.rules.specs.Lists.{tabulate, all, Each, none, ◌and◌, last_of}
use Rattle.rules.proofs.Bools.{and_iff}

-- ---- each element: at an index, of a member, and from a test of each that computes

pub at_index : {A : Type 0} {P : A → Type 0} {xs : List A} → Each P xs → (i : ℕ) → i < length xs → (d : A) → P (get_or xs i d)
at_index none i h d = absurd (not-suc-le-zero h)
at_index (p and ps) zero h d = p
at_index (p and ps) (suc i) h d = at_index ps i (le_of_suc-le-suc h) d

pub of_member : {A : Type 0} {P : A → Type 0} {x : A} {xs : List A} → Each P xs → Memᴰ x xs → P x
of_member none m = elim m [ ]
of_member {P = P} (p and ps) (Memᴰ.head e) = subst P (sym e) p
of_member (p and ps) (Memᴰ.tail m) = of_member ps m

pub each_of : {A : Type 0} (test : A → Bool) (xs : List A) → T (all (map test xs)) → Each (λ x. T (test x)) xs
each_of test [] h = none
each_of test (x ∷ xs) h = let b = and_yes (test x) (all (map test xs)) h in b.0 and each_of test xs b.1

pub all_each : (tests : List Bool) → T (all tests) ↔ Each T tests
all_each tests = (to tests, from)
  where
    to : (tests : List Bool) → T (all tests) → Each T tests
    to [] h = none
    to (test ∷ tests) h = let b = and_yes test (all tests) h in b.0 and to tests b.1

    from : {tests : List Bool} → Each T tests → T (all tests)
    from none = tt
    from (◌and◌ {x = test} {xs = tests} p ps) = yes_and test (all tests) p (from ps)

pub all_front : (xs ys : List Bool) → T (all (xs ++ ys)) → T (all xs)
all_front [] ys h = tt
all_front (x ∷ xs) ys h = let b = and_yes x (all (xs ++ ys)) h in yes_and x (all xs) b.0 (all_front xs ys b.1)

-- ---- a test of every place

pub all_places : (n : ℕ) (test : ℕ → Bool) → T (all (tabulate n test)) ↔ ((i : ℕ) → i < n → T (test i))
all_places zero test = (λ h i k. absurd (not-suc-le-zero k), λ f. tt)
all_places (suc n) test = step n test (all_places n (λ k. test (suc k)))
  where
    step : (n : ℕ) (test : ℕ → Bool) → T (all (tabulate n (λ k. test (suc k)))) ↔ ((i : ℕ) → i < n → T (test (suc i)))
        → T (all (tabulate (suc n) test)) ↔ ((i : ℕ) → i < suc n → T (test i))
    step n test rest = (to, λ f. here.1 (f zero (suc-le-suc zero-le), rest.1 (λ i k. f (suc i) (suc-le-suc k))))
      where
        here : T (test zero && all (tabulate n (λ k. test (suc k)))) ↔ (T (test zero) × T (all (tabulate n (λ k. test (suc k)))))
        here = and_iff (test zero) (all (tabulate n (λ k. test (suc k))))

        to : T (all (tabulate (suc n) test)) → (i : ℕ) → i < suc n → T (test i)
        to h zero k = (here.0 h).0
        to h (suc i) k = rest.0 (here.0 h).1 i (le_of_suc-le-suc k)

-- where a test of every place fails, it fails at a place
pub some_place : (n : ℕ) (test : ℕ → Bool) → all (tabulate n test) ≡ false → (i : ℕ) × (i < n) × (test i ≡ false)
some_place zero test e = absurd (true≢false e)
some_place (suc n) test e = go (test zero) refl (some_place n (λ k. test (suc k)))
  where
    go : (b : Bool) → test zero ≡ b → (all (tabulate n (λ k. test (suc k))) ≡ false → (i : ℕ) × (i < n) × (test (suc i) ≡ false))
        → (i : ℕ) × (i < suc n) × (test i ≡ false)
    go false h later = (zero, suc-le-suc zero-le, h)
    go true h later =
        let rest : all (tabulate n (λ k. test (suc k))) ≡ false = rw h at e in
        let found = later rest in
        (suc found.0, suc-le-suc found.1, found.2)

-- ---- a tabulated list

module _ {A : Type 0} where
  -- the length of an array that is a field, which its type states of the machine's values
  pub mapped : {B : Type 0} (f : A → B) (l : List A) (n : ℕ) → length (map f l) ≡ n → length l ≡ n
  mapped f l n e = sym (length-map l f) ∙ e

  pub at_place : (n : ℕ) (f : ℕ → A) (d : A) (i : ℕ) → i < n → get_or (tabulate n f) i d ≡ f i
  at_place zero f d i h = absurd (not-suc-le-zero h)
  at_place (suc n) f d zero h = refl
  at_place (suc n) f d (suc i) h = at_place n (λ k. f (suc k)) d i (le_of_suc-le-suc h)

  pub length_tabulate : (n : ℕ) (f : ℕ → A) → length (tabulate n f) ≡ n
  length_tabulate zero f = refl
  length_tabulate (suc n) f = ap suc (length_tabulate n (λ k. f (suc k)))

  pub tabulate_ext : (n : ℕ) (f g : ℕ → A) → ((i : ℕ) → i < n → f i ≡ g i) → tabulate n f ≡ tabulate n g
  tabulate_ext zero f g h = refl
  tabulate_ext (suc n) f g h =
      ap₂ ◌∷◌ (h zero (suc-le-suc zero-le)) (tabulate_ext n (λ k. f (suc k)) (λ k. g (suc k)) (λ i k. h (suc i) (suc-le-suc k)))

  -- a list is that of what stands at its places
  pub tabulate_places : (n : ℕ) (xs : List A) (d : A) → length xs ≡ n → xs ≡ tabulate n (λ i. get_or xs i d)
  tabulate_places zero [] d e = refl
  tabulate_places zero (x ∷ xs) d e = absurd (omega arith)
  tabulate_places (suc n) [] d e = absurd (omega arith)
  tabulate_places (suc n) (x ∷ xs) d e = ap (λ (l : List A). x ∷ l) (tabulate_places n xs d (omega arith))

  -- its last place apart
  pub tabulate_last : (n : ℕ) (f : ℕ → A) → tabulate (suc n) f ≡ tabulate n f ++ (f n ∷ [])
  tabulate_last zero f = refl
  tabulate_last (suc n) f = ap (λ (l : List A). f zero ∷ l) (tabulate_last n (λ k. f (suc k)))

  -- one place more
  pub tabulate_more : (n : ℕ) (f g : ℕ → A) (x : A) → ((i : ℕ) → i < n → g i ≡ f i) → g n ≡ x → tabulate (n + 1) g ≡ tabulate n f ++ (x ∷ [])
  tabulate_more n f g x h e = rw add-one (tabulate_last n g ∙ ap₂ (λ (l : List A) (y : A). l ++ (y ∷ [])) (tabulate_ext n g f h) e)

  -- ---- keeping the first or the last n

  -- the first n of what was kept and what is new
  pub take_kept : (n : ℕ) (xs ys : List A) → take n (take n xs ++ ys) ≡ take n (xs ++ ys)
  take_kept zero xs ys = refl
  take_kept (suc n) [] ys = refl
  take_kept (suc n) (x ∷ xs) ys = ap (λ (l : List A). x ∷ l) (take_kept n xs ys)

  -- and the last n
  pub last_kept : (n : ℕ) (xs ys : List A) → last_of n (last_of n xs ++ ys) ≡ last_of n (xs ++ ys)
  last_kept n xs ys =
      ap (λ (l : List A). last_of n l) (sym (drop-append-le k xs ys (omega arith)))
      ∙ drop-drop (length (drop k (xs ++ ys)) - n) k (xs ++ ys)
      ∙ ap (λ (i : ℕ). drop i (xs ++ ys)) ends
    where
      k : ℕ
      k = length xs - n

      ends : k + (length (drop k (xs ++ ys)) - n) ≡ length (xs ++ ys) - n
      ends = simp (length-drop, length-append) (omega arith)

  pub last_all : (n : ℕ) (xs : List A) → length xs ≤ n → last_of n xs ≡ xs
  last_all n xs h = let none : length xs - n ≡ 0 = omega arith in rw none

  -- one more than room: the oldest goes
  pub last_shift : (n : ℕ) (f : ℕ → A) (x : A) → last_of (suc n) (tabulate (suc n) f ++ (x ∷ [])) ≡ tabulate n (λ k. f (suc k)) ++ (x ∷ [])
  last_shift n f x = ap (λ (i : ℕ). drop i (tabulate (suc n) f ++ (x ∷ []))) one
    where
      one : length (tabulate (suc n) f ++ (x ∷ [])) - suc n ≡ 1
      one = omega (arith, length-append (tabulate (suc n) f) (x ∷ []), length_tabulate (suc n) f)
