-- The storage shell on values (01, 'Shell'; shell.rs, and `shell_line` of protocol.rs): the line of a payload, what a line asks
-- for, the part of scratch that an address and a length name, and the device table of `get_bootdevice`.
use Rattle.std.specs.Prelude.{ℕ, ◌+◌, ◌-◌, ◌%◌, ◌^◌, min, Bool, false, cond, ◌&&◌, ◌||◌, List, [], ◌∷◌, length, take, drop, replicate, nat_le, nat_lt, Option, None, Some}
use Rattle.text.specs.Utf8.{any_of, is_utf8}
use Rattle.text.specs.Token.{tokens_of, rest_of, ascii, starts_with, same}
use Rattle.text.specs.Number.{number_in}
use Rattle.wire.specs.Bytes.{bytes_of, word_at, laid}
use Rattle.engine.specs.declared.shell.Line.{Line}
use Rattle.engine.specs.declared.shell.Line.TheVariants as line
use Rattle.engine.specs.declared.shell.Tokens.{Tokens}
use Rattle.engine.specs.declared.shell.Window.{Window}
use Rattle.engine.specs.declared.shell.Word.{Word}
use Rattle.engine.specs.declared.shell.Word.TheVariants as word

-- ---- the line of a payload

-- a u32 length and that many UTF-8 bytes; what lies behind them is not looked at
abbrev pub text_of : List ℕ → Option ℕ
text_of s =
    cond (nat_le 4 (length s) && (nat_le (4 + word_at 4 s 0) (length s) && is_utf8 (take (word_at 4 s 0) (drop 4 s))))
    (Some (word_at 4 s 0))
    None

-- a line that changes flash, by its first bytes
abbrev pub is_write : List ℕ → Bool
is_write s = starts_with s (ascii "bderase") || starts_with s (ascii "bdwrite")

-- a line whose first token is `reset`
abbrev pub is_first : List ℕ → List (List ℕ) → Bool
is_first w [] = false
is_first w (t ∷ ts) = same t w

unfoldable pub is_reset : List ℕ → Bool
is_reset s = is_first (ascii "reset") (tokens_of s)

-- ---- what a line asks for

-- the words that are accepted with nothing to do
unfoldable pub done_words : List (List ℕ)
done_words = ascii "bdopen" ∷ ascii "bdclose" ∷ ascii "bdcfg" ∷ ascii "efuse" ∷ ascii "aicupg" ∷ ascii "reset" ∷ []

-- the command words
unfoldable pub word_of : List ℕ → Option Word
word_of t =
    cond (any_of (same t) done_words) (Some word.Done)
    (cond (same t (ascii "bderase")) (Some word.Erase)
    (cond (same t (ascii "bdwrite")) (Some word.Write)
    (cond (same t (ascii "bdread")) (Some word.Read)
    (cond (same t (ascii "get_bootdevice")) (Some word.Boot)
    None))))

-- the next token is a number, and with it and the tokens behind it the rest goes on; None where the token is missing or says none
abbrev pub on_number : {A : Type 0} → (ℕ → Option A) → Option ℕ → Option A
on_number f (Some n) = f n
on_number f None = None

abbrev pub with_number : {A : Type 0} → (ℕ → List (List ℕ) → Option A) → List (List ℕ) → Option A
with_number f [] = None
with_number f (t ∷ ts) = on_number (λ n. f n ts) (number_in t)

-- the next token is an id, which may be any; None where it is missing
abbrev pub with_id : (List (List ℕ) → Option Line) → List (List ℕ) → Option Line
with_id f [] = None
with_id f (t ∷ ts) = f ts

-- the numbers of each command
abbrev pub erase_of : List (List ℕ) → Option Line
erase_of = with_number (λ start. with_number (λ size ts. Some (line.Erase start size)))

abbrev pub write_of : List (List ℕ) → Option Line
write_of = with_number (λ offset. with_number (λ len. with_number (λ addr ts. Some (line.Write offset len addr))))

abbrev pub read_of : List (List ℕ) → Option Line
read_of = with_number (λ offset. with_number (λ len. with_number (λ addr ts. Some (line.Read offset len addr))))

abbrev pub boot_of : List (List ℕ) → Option Line
boot_of = with_number (λ addr. with_number (λ len ts. Some (line.Boot addr len)))

-- a command word with the tokens behind it
abbrev pub asked : Option Word → List (List ℕ) → Option Line
asked None ts = None
asked (Some word.Done) ts = Some line.Done
asked (Some word.Erase) ts = with_id erase_of ts
asked (Some word.Write) ts = with_id write_of ts
asked (Some word.Read) ts = with_id read_of ts
asked (Some word.Boot) ts = boot_of ts

-- the first token is the command word; None where a line asks for nothing that is known
abbrev pub command : List (List ℕ) → Option Line
command [] = None
command (t ∷ ts) = asked (word_of t) ts

unfoldable pub line_of : List ℕ → Option Line
line_of s = command (tokens_of s)

-- ---- the same by places, as the code goes

-- the tokens that are left
abbrev pub tokens_left : Tokens → List (List ℕ)
tokens_left t = rest_of t.line.now t.place

-- those behind the next
abbrev pub behind : List (List ℕ) → List (List ℕ)
behind [] = []
behind (t ∷ ts) = ts

-- three numbers
abbrev pub three_of : List (List ℕ) → Option (ℕ × ℕ × ℕ)
three_of = with_number (λ a. with_number (λ b. with_number (λ c ts. Some (a, b, c))))

-- ---- the part of scratch that an address and a length name

-- refused below scratch's base and from its end on; the length is cut to that end
abbrev pub window_of : ℕ → ℕ → ℕ → ℕ → Option Window
window_of base size addr len =
    cond (nat_le base addr && nat_lt addr (base + size)) (Some (record { place = addr - base; len = min len (base + size - addr) })) None

-- ---- the device table

-- a word at a place, where its four bytes fit
abbrev pub put_word : List ℕ → ℕ → ℕ → List ℕ
put_word s at x = laid s at (bytes_of 4 x)

-- the kind, the block size twice and the low half of the capacity
unfoldable pub boot_words : ℕ → ℕ → List ℕ → List ℕ
boot_words block capacity s =
    put_word (put_word (put_word (put_word (put_word s 0x00 1) 0x08 2) 0x18 block) 0x1C block) 0x20 (capacity % 2 ^ 32)

-- the name with its zero byte at 0x40 and its address at 0x24, where the name fits
unfoldable pub boot_name : ℕ → ℕ → List ℕ → List ℕ
boot_name base at s =
    cond (nat_le (0x40 + 18) (length s)) (put_word (laid s 0x40 (ascii "artinchip spi-nor\0")) 0x24 ((base + at + 0x40) % 2 ^ 32)) s

-- the whole table over a part of scratch that starts at a place: zeros, the words, the name
unfoldable pub boot_table : ℕ → ℕ → ℕ → ℕ → List ℕ → List ℕ
boot_table base at block capacity s = boot_name base at (boot_words block capacity (replicate (length s) 0))
