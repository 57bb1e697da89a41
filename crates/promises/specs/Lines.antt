-- Only named reasons, of the shell's lines (01, 'Shell'): a line asks for something, or it is refused because its first token is no command
-- word, or because of the id and the numbers that the word needs one is missing or says no number; and for each of these reasons it is refused.
use Rattle.std.specs.Prelude.{◌≡◌, refl, true, false, List, [], ◌∷◌, ℕ, suc, eqb, Option, None, Some}
use Rattle.std.proofs.Common.{ap, ap₂, ◌∙◌, inl, inr, arith, eqb-true}
use Rattle.text.specs.Utf8.{any_of}
use Rattle.text.specs.Token.{tokens_of, on_first, ascii, same}
use Rattle.text.specs.Number.{number_in}
use Rattle.engine.specs.declared.shell.Line.{Line}
use Rattle.engine.specs.declared.shell.Line.TheVariants as line
use Rattle.engine.specs.Shell.{done_words, word_of, on_number, with_number, with_id, erase_of, write_of, read_of, boot_of, asked, command, line_of}
use Rattle.promises.specs.Why.{NoNumber, BehindId, task_words, WordWhy, LineWhy, no_word, no_erase, no_write, no_read, no_boot}
use Rattle.promises.specs.Picked.{picked, or_false, and_both}

-- a line is asked, or bad for a reason
abbrev pub Lined : Type 0 → Option Line → Type 0
Lined W None = W
Lined W (Some line.Done) = Unit {0}
Lined W (Some (line.Erase start size)) = Unit {0}
Lined W (Some (line.Write off len addr)) = Unit {0}
Lined W (Some (line.Read off len addr)) = Unit {0}
Lined W (Some (line.Boot addr len)) = Unit {0}

lined_map : {A B : Type 0} → (A → B) → (x : Option Line) → Lined A x → Lined B x
lined_map f None h = f h
lined_map f (Some line.Done) h = tt
lined_map f (Some (line.Erase start size)) h = tt
lined_map f (Some (line.Write off len addr)) h = tt
lined_map f (Some (line.Read off len addr)) h = tt
lined_map f (Some (line.Boot addr len)) h = tt

number_lined : (n : ℕ) (f : ℕ → List (List ℕ) → Option Line) → ((k : ℕ) (ts : List (List ℕ)) → Lined (NoNumber n ts) (f k ts)) → (ts : List (List ℕ))
    → Lined (NoNumber (suc n) ts) (with_number f ts)
number_lined n f h [] = tt
number_lined n f h (t ∷ ts) = go (number_in t) refl
  where
    go : (x : Option ℕ) → number_in t ≡ x → Lined (NoNumber (suc n) (t ∷ ts)) (on_number (λ k. f k ts) x)
    go (Some k) e = lined_map inr (f k ts) (h k ts)
    go None e = inl e

id_lined : (n : ℕ) (f : List (List ℕ) → Option Line) → ((ts : List (List ℕ)) → Lined (NoNumber n ts) (f ts)) → (ts : List (List ℕ)) → Lined (BehindId n ts) (with_id f ts)
id_lined n f h [] = tt
id_lined n f h (t ∷ ts) = h ts

two_lined : (f : ℕ → ℕ → Line) → ((a b : ℕ) → Lined ⊥ (Some (f a b))) → (ts : List (List ℕ)) → Lined (NoNumber 2 ts) (with_number (λ a. with_number (λ b us. Some (f a b))) ts)
two_lined f h = number_lined 1 _ (λ a. number_lined 0 (λ b us. Some (f a b)) (λ b us. h a b))

three_lined : (f : ℕ → ℕ → ℕ → Line) → ((a b c : ℕ) → Lined ⊥ (Some (f a b c))) → (ts : List (List ℕ))
    → Lined (NoNumber 3 ts) (with_number (λ a. with_number (λ b. with_number (λ c us. Some (f a b c)))) ts)
three_lined f h = number_lined 2 _ (λ a. two_lined (f a) (h a))

-- a word and the tokens behind it
word_lined : (t : List ℕ) (ts : List (List ℕ)) → Lined (WordWhy t ts) (asked (word_of t) ts)
unfolding word_of any_of
word_lined t ts =
    picked (λ x. Lined (WordWhy t ts) (asked x ts)) (any_of (same t) done_words) _ _ (λ a. tt)
    (λ a. picked (λ x. Lined (WordWhy t ts) (asked x ts)) (same t (ascii "bderase")) _ _
    (λ b. of_erase b)
    (λ b. picked (λ x. Lined (WordWhy t ts) (asked x ts)) (same t (ascii "bdwrite")) _ _
    (λ c. of_write c)
    (λ c. picked (λ x. Lined (WordWhy t ts) (asked x ts)) (same t (ascii "bdread")) _ _
    (λ d. of_read d)
    (λ d. picked (λ x. Lined (WordWhy t ts) (asked x ts)) (same t (ascii "get_bootdevice")) _ _ (λ e. of_boot e) (λ e. no_word a (rw (b, c, d, e)))))))
  where
    of_erase : same t (ascii "bderase") ≡ true → Lined (WordWhy t ts) (with_id erase_of ts)
    of_erase e = lined_map (no_erase e) (with_id erase_of ts) (id_lined 2 erase_of (two_lined line.Erase (λ a b. tt)) ts)

    of_write : same t (ascii "bdwrite") ≡ true → Lined (WordWhy t ts) (with_id write_of ts)
    of_write e = lined_map (no_write e) (with_id write_of ts) (id_lined 3 write_of (three_lined line.Write (λ a b c. tt)) ts)

    of_read : same t (ascii "bdread") ≡ true → Lined (WordWhy t ts) (with_id read_of ts)
    of_read e = lined_map (no_read e) (with_id read_of ts) (id_lined 3 read_of (three_lined line.Read (λ a b c. tt)) ts)

    of_boot : same t (ascii "get_bootdevice") ≡ true → Lined (WordWhy t ts) (boot_of ts)
    of_boot e = lined_map (no_boot e) (boot_of ts) (two_lined line.Boot (λ a b. tt) ts)

-- every line has a first token, which may be empty
abbrev HasFirst : List (List ℕ) → Type 0
HasFirst [] = ⊥
HasFirst (t ∷ ts) = Unit {0}

first_some : (b : ℕ) (ts : List (List ℕ)) → HasFirst (on_first b ts)
first_some b [] = tt
first_some b (t ∷ ts) = tt

tokens_some : (s : List ℕ) → HasFirst (tokens_of s)
unfolding tokens_of
tokens_some [] = tt
tokens_some (b ∷ s) = picked HasFirst (eqb b 0x20) ([] ∷ tokens_of s) (on_first b (tokens_of s)) (λ e. tt) (λ e. first_some b (tokens_of s))

pub line_lined : (s : List ℕ) → Lined (LineWhy (tokens_of s)) (line_of s)
unfolding line_of
line_lined s = go (tokens_of s) (tokens_some s)
  where
    go : (ts : List (List ℕ)) → HasFirst ts → Lined (LineWhy ts) (command ts)
    go [] h = h
    go (t ∷ ts) h = word_lined t ts

-- ---- and for each of these reasons it is refused

number_bad : (n : ℕ) (f : ℕ → List (List ℕ) → Option Line) → ((k : ℕ) (ts : List (List ℕ)) → NoNumber n ts → f k ts ≡ None) → (ts : List (List ℕ)) → NoNumber (suc n) ts
    → with_number f ts ≡ None
number_bad n f h [] y = refl
number_bad n f h (t ∷ ts) (inl e) = ap (on_number (λ k. f k ts)) e
number_bad n f h (t ∷ ts) (inr y) = go (number_in t)
  where
    go : (x : Option ℕ) → on_number (λ k. f k ts) x ≡ None
    go (Some k) = h k ts y
    go None = refl

id_bad : (n : ℕ) (f : List (List ℕ) → Option Line) → ((ts : List (List ℕ)) → NoNumber n ts → f ts ≡ None) → (ts : List (List ℕ)) → BehindId n ts → with_id f ts ≡ None
id_bad n f h [] y = refl
id_bad n f h (t ∷ ts) y = h ts y

two_bad : (f : ℕ → ℕ → Line) (ts : List (List ℕ)) → NoNumber 2 ts → with_number (λ a. with_number (λ b us. Some (f a b))) ts ≡ None
two_bad f = number_bad 1 _ (λ a. number_bad 0 (λ b us. Some (f a b)) (λ b us y. absurd y))

three_bad : (f : ℕ → ℕ → ℕ → Line) (ts : List (List ℕ)) → NoNumber 3 ts → with_number (λ a. with_number (λ b. with_number (λ c us. Some (f a b c)))) ts ≡ None
three_bad f = number_bad 2 _ (λ a. two_bad (f a))

-- a token that is a word
same_is : (s t : List ℕ) → same s t ≡ true → s ≡ t
unfolding same
same_is [] [] e = refl
same_is [] (b ∷ t) e = absurd (let z : ◌≡◌ {A = ℕ} 0 1 = cc in omega arith)
same_is (a ∷ s) [] e = absurd (let z : ◌≡◌ {A = ℕ} 0 1 = cc in omega arith)
same_is (a ∷ s) (b ∷ t) e = let h = and_both (eqb a b) (same s t) e in ap₂ ◌∷◌ (eqb-true a b h.0) (same_is s t h.1)

none_bad : (t : List ℕ) (ts : List (List ℕ)) → any_of (same t) done_words ≡ false → any_of (same t) task_words ≡ false → asked (word_of t) ts ≡ None
unfolding word_of any_of
none_bad t ts p q =
    let a = or_false (same t (ascii "bderase")) _ q in
    let b = or_false (same t (ascii "bdwrite")) _ a.1 in
    let c = or_false (same t (ascii "bdread")) _ b.1 in
    let d = or_false (same t (ascii "get_bootdevice")) _ c.1 in
    rw (p, a.0, b.0, c.0, d.0) refl

word_bad : (t : List ℕ) (ts : List (List ℕ)) → WordWhy t ts → asked (word_of t) ts ≡ None
unfolding word_of any_of same done_words
word_bad t ts (no_word p q) = none_bad t ts p q
word_bad t ts (no_erase e y) = ap (λ (x : List ℕ). asked (word_of x) ts) (same_is t (ascii "bderase") e) ∙ id_bad 2 erase_of (two_bad line.Erase) ts y
word_bad t ts (no_write e y) = ap (λ (x : List ℕ). asked (word_of x) ts) (same_is t (ascii "bdwrite") e) ∙ id_bad 3 write_of (three_bad line.Write) ts y
word_bad t ts (no_read e y) = ap (λ (x : List ℕ). asked (word_of x) ts) (same_is t (ascii "bdread") e) ∙ id_bad 3 read_of (three_bad line.Read) ts y
word_bad t ts (no_boot e y) = ap (λ (x : List ℕ). asked (word_of x) ts) (same_is t (ascii "get_bootdevice") e) ∙ two_bad line.Boot ts y

-- "empty, `+` alone, any other character and values above 2^64-1 are refused", as are a missing token and a first token that is no command word
pub line_bad : (s : List ℕ) → LineWhy (tokens_of s) → line_of s ≡ None
unfolding line_of
line_bad s = go (tokens_of s)
  where
    go : (ts : List (List ℕ)) → LineWhy ts → command ts ≡ None
    go [] h = absurd h
    go (t ∷ ts) h = word_bad t ts h
