-- The words of a line, and the numbers among them: docs/DRIVER.md. A character is its number, as ' ' is 32; a line is the list of its characters.
-- A word is named by the positions of the spaces around it; the line's length stands for a space behind the last word. Assumes nothing.
use Rattle.std.specs.Prelude.{ℕ, ◌+◌, min, Bool, true, false, ◌&&◌, List, [], ◌∷◌, eqb, leb, length, take, drop, get_or, set, replicate, zero, suc, Option, Result, Ok, Err}
use Rattle.std.specs.Bool.{then_some}
use Rattle.std.proofs.Math.Seq.{slice}
use Rattle.lines.specs.Place.{index_of}
use Rattle.numbers.specs.Bytes.{pick}
use Rattle.lines.specs.declared.NumberFault.{NumberFault}
use Rattle.lines.specs.Decimal.{number_of}
use Rattle.words.specs.declared.Kind.{Kind}
use Rattle.words.specs.declared.Kind.TheVariants.{Unreadable, Read, Write, Send, Payload, New, Call, Silent, Rpc, RpcWrite}
use Rattle.words.specs.declared.Numbers.{Numbers}

-- the numbers that a command asks for: the largest that each may be
pub record Form : Type 0 where
  pub kind : Kind
  pub limits : List ℕ

-- a number, whether it is good, and where its word ends
pub record Word : Type 0 where
  pub good : Bool
  pub value : ℕ
  pub end : ℕ

-- numbers, whether all of them are good, the last one, and where its word ends
pub record NumbersRead : Type 0 where
  pub good : Bool
  pub values : List ℕ
  pub lent : ℕ
  pub end : ℕ

-- whether two lists hold the same characters
abbrev pub same_bytes : List ℕ → List ℕ → Bool
same_bytes [] [] = true
same_bytes [] (y ∷ ys) = false
same_bytes (x ∷ xs) [] = false
same_bytes (x ∷ xs) (y ∷ ys) = eqb x y && same_bytes xs ys

-- "none for an empty line or one that begins with `#`"
abbrev pub is_silent : List ℕ → Bool
is_silent line = pick (eqb (length line) 0) true (eqb (get_or line 0 0) 35)

-- where the word behind a space begins, and where it ends
abbrev pub word_start : List ℕ → ℕ → ℕ
word_start line space = min (1 + space) (length line)

abbrev pub word_end : List ℕ → ℕ → ℕ
word_end line space = word_start line space + index_of 32 (slice (word_start line space) (length line) line)

-- what stands behind a space, up to a position
abbrev pub between : List ℕ → ℕ → ℕ → List ℕ
between line space end = drop (1 + space) (take end line)

-- "Numbers are decimal: digits only, leading zeros are read." A word that is no number, or one above its limit, is not good.
abbrev pub word_of : ℕ → ℕ → Result ℕ NumberFault → Word
word_of most end (Ok v) = record { good = leb v most; value = v; end = end }
word_of most end (Err f) = record { good = false; value = 0; end = end }

-- "FORM is `rpc`, `bulk` or `query`": 0, 1 or 2
unfoldable pub form_word : ℕ → List ℕ → Word
form_word end word =
    pick (same_bytes word (114 ∷ 112 ∷ 99 ∷ [])) (record { good = true; value = 0; end = end })
    (pick (same_bytes word (98 ∷ 117 ∷ 108 ∷ 107 ∷ [])) (record { good = true; value = 1; end = end })
    (record { good = same_bytes word (113 ∷ 117 ∷ 101 ∷ 114 ∷ 121 ∷ []); value = 2; end = end }))

-- a word that ends at a position, as a number: where its limit is 2 it names a form
abbrev pub read_word : ℕ → ℕ → List ℕ → Word
read_word most end word = pick (eqb most 2) (form_word end word) (word_of most end (number_of word))

-- the word behind a space as a number
abbrev pub word_at : List ℕ → ℕ → ℕ → Word
word_at line space most = read_word most (word_end line space) (between line space (word_end line space))

-- numbers so far, with a word as number i
abbrev pub with_word : NumbersRead → ℕ → Word → NumbersRead
with_word n i w = record { good = n.good && w.good; values = set n.values i w.value; lent = w.value; end = w.end }

-- numbers so far, and one more for each limit
unfoldable pub numbers_from : List ℕ → List ℕ → ℕ → NumbersRead → NumbersRead
numbers_from line [] i n = n
numbers_from line (most ∷ limits) i n = numbers_from line limits (i + 1) (with_word n i (word_at line n.end most))

-- before the first number: a line with none lends the longest out buffer
abbrev pub no_numbers : ℕ → NumbersRead
no_numbers space = record { good = true; values = replicate 9 0; lent = 131084; end = space }

-- the numbers that a form asks for
abbrev pub numbers_of : List ℕ → ℕ → Form → NumbersRead
numbers_of line space form = numbers_from line form.limits 0 (no_numbers space)

-- a number, and all numbers, where they are good
abbrev pub said_word : Word → Option ℕ
said_word w = then_some w.good w.value

abbrev pub said_numbers : NumbersRead → Option Numbers
said_numbers n = then_some n.good (record { values = n.values; lent = n.lent })

-- where so many words behind a space end, whatever they say
unfoldable pub words_end : List ℕ → ℕ → ℕ → ℕ
words_end line zero space = space
words_end line (suc count) space = words_end line count (word_end line space)

-- the largest that each number of a command may be; none where it has no numbers.
-- "new M m p MTU", "call G C HASH OUTLEN HEX": "M, m and p are bytes, MTU and HASH have 32 bits, G and C 16", OUTLEN is "at most 131,084"
-- "write version flag type service info session size id OUTLEN HEX": "Version, type, service, info and session are bytes, flag is 0 or 1, size, id, chunk and k have 32 bits"
-- "send version service session id chunk k OUTLEN HEX"
-- "rpc FORM version HEX": "version and type are bytes, function, correlation and size 32 bits"
-- "rpcwrite FORM version type function correlation size OUTLEN JSON BULK"
abbrev pub limits_of : Kind → List ℕ
limits_of Unreadable = []
limits_of Read = []
limits_of Write = 255 ∷ 1 ∷ 255 ∷ 255 ∷ 255 ∷ 255 ∷ 4294967295 ∷ 4294967295 ∷ 131084 ∷ []
limits_of Send = 255 ∷ 255 ∷ 255 ∷ 4294967295 ∷ 4294967295 ∷ 4294967295 ∷ 131084 ∷ []
limits_of Payload = []
limits_of New = 255 ∷ 255 ∷ 255 ∷ 4294967295 ∷ []
limits_of Call = 65535 ∷ 65535 ∷ 4294967295 ∷ 131084 ∷ []
limits_of Silent = []
limits_of Rpc = 2 ∷ 255 ∷ []
limits_of RpcWrite = 2 ∷ 255 ∷ 255 ∷ 4294967295 ∷ 4294967295 ∷ 4294967295 ∷ 131084 ∷ []

-- a command with its numbers
abbrev pub form_as : Kind → Form
form_as kind = record { kind = kind; limits = limits_of kind }

-- the commands "new" and "call", else none
unfoldable pub link_form_of : List ℕ → Form
link_form_of name =
    pick (same_bytes name (110 ∷ 101 ∷ 119 ∷ [])) (form_as New)
    (pick (same_bytes name (99 ∷ 97 ∷ 108 ∷ 108 ∷ [])) (form_as Call)
    (form_as Unreadable))

-- the commands "rpc" and "rpcwrite", and those with a link
unfoldable pub rpc_form_of : List ℕ → Form
rpc_form_of name =
    pick (same_bytes name (114 ∷ 112 ∷ 99 ∷ [])) (form_as Rpc)
    (pick (same_bytes name (114 ∷ 112 ∷ 99 ∷ 119 ∷ 114 ∷ 105 ∷ 116 ∷ 101 ∷ [])) (form_as RpcWrite)
    (link_form_of name))

-- the commands "read", "write", "send", "payload", and the others
unfoldable pub form_of : List ℕ → Form
form_of name =
    pick (same_bytes name (114 ∷ 101 ∷ 97 ∷ 100 ∷ [])) (form_as Read)
    (pick (same_bytes name (119 ∷ 114 ∷ 105 ∷ 116 ∷ 101 ∷ [])) (form_as Write)
    (pick (same_bytes name (115 ∷ 101 ∷ 110 ∷ 100 ∷ [])) (form_as Send)
    (pick (same_bytes name (112 ∷ 97 ∷ 121 ∷ 108 ∷ 111 ∷ 97 ∷ 100 ∷ [])) (form_as Payload)
    (rpc_form_of name))))
