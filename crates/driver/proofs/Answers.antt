-- The answers to the commands that need no link: the out buffer that is lent, and what is inside a message, read or written. Assumes nothing.
use Rattle.std.proofs.Common.{◌≡◌, ℕ, min, List, length, take, drop, sym, ap, ◌∙◌, arith, length-drop, take_all, Result, Ok}
use lib.ListN.{length-replicate}
use Rattle.numbers.specs.Bytes.{part}
use Rattle.text.specs.declared.Text.{Text}
use Rattle.text.specs.Said.{said, Started}
use Rattle.std.proofs.lemmas.List.{take_min}
use Rattle.frame.specs.Write.{Wrote}
use Rattle.words.specs.declared.Command.{Command}
use Rattle.rpc.specs.declared.Form.{Form}
use Rattle.rpc.specs.declared.Header as message
use Rattle.rpc.specs.declared.Parts.{Parts}
use Rattle.rpc.specs.declared.Content.{Content}
use Rattle.rpc.specs.declared.Content.TheVariants.{Message, Bare}
use Rattle.rpc.specs.Layout as layout
use Rattle.rpc.specs.Read as rpcRead
use Rattle.rpc.specs.Write as rpcWrite
use Rattle.driver.specs.Spelling.{parts_behind}
use Rattle.driver.specs.Answers.{byte_at, wide_at, untouched_out, form_at, message_header, rpc_wrote_by, fields_text, bare_text, rpc_by, rpc_answer}

-- the out buffer's length
untouched_length : length untouched_out ≡ 131084
unfolding untouched_out
untouched_length = length-replicate {A = ℕ} 131084 238

-- the front of it that is lent, as much as there is
pub lent_front : (n : ℕ) {k : ℕ} {o : List ℕ} → o ≡ untouched_out → k ≡ min n 131084 → take k o ≡ take n untouched_out
lent_front n {k} {o} e h =
    let z : k ≡ min n (length untouched_out) = omega (arith, h, untouched_length) in
    rw (z, e) (take_min n untouched_out)

-- the line of what was read: a text, and the parts of the payload behind it
module _ (s : List ℕ) {r : Result Content ℕ} {t : Text} {p : Parts} {w : List ℕ} (laid : w ≡ parts_behind (said t) (take 150000 s) p) where
  pub message_line : {h : message.Header} {n : ℕ} → r ≡ Ok (Message h n p) → Started (fields_text (layout.fields_of h n)) t → w ≡ rpc_by s r
  message_line told f = laid ∙ ap (λ (x : List ℕ). parts_behind x (take 150000 s) p) f.says ∙ ap (rpc_by s) (sym told)

  pub bare_line : r ≡ Ok (Bare p) → Started bare_text t → w ≡ rpc_by s r
  bare_line told f = laid ∙ ap (λ (x : List ℕ). parts_behind x (take 150000 s) p) f.says ∙ ap (rpc_by s) (sym told)

-- what was read of the bytes that a line says
module _ (c : Command) (s : List ℕ) {f : Form} {v : ℕ} {r : Result Content ℕ} where
  pub rpc_read : f ≡ form_at c → v ≡ byte_at c 1 → r ≡ rpcRead.read_of f v s → {w : List ℕ} → w ≡ rpc_by s r → w ≡ rpc_answer c s
  rpc_read form version read e =
      let all = read ∙ ap (λ (x : Form). rpcRead.read_of x v s) form ∙ ap (λ (x : ℕ). rpcRead.read_of (form_at c) x s) version in
      e ∙ ap (rpc_by s) all

-- what was written: JSON are the bytes of the first word, bulk data those behind them
module _ (c : Command) (input out : List ℕ) {v n : ℕ} {h : message.Header} {j b : List ℕ} {w : Wrote} where
  pub rpc_wrote : v ≡ byte_at c 1 → h ≡ message_header c → n ≡ wide_at c 5 → j ≡ take c.first input → b ≡ part input c.first (length input)
      → w ≡ rpcWrite.write_of v h n j b out → w ≡ rpc_wrote_by c input out
  rpc_wrote version header size json bulk e =
      let rest = bulk ∙ take_all (length input) (drop c.first input) (omega (arith, length-drop c.first input)) in
      e
      ∙ ap (λ (x : ℕ). rpcWrite.write_of x h n j b out) version
      ∙ ap (λ (x : message.Header). rpcWrite.write_of (byte_at c 1) x n j b out) header
      ∙ ap (λ (x : ℕ). rpcWrite.write_of (byte_at c 1) (message_header c) x j b out) size
      ∙ ap (λ (x : List ℕ). rpcWrite.write_of (byte_at c 1) (message_header c) (wide_at c 5) x b out) json
      ∙ ap (λ (x : List ℕ). rpcWrite.write_of (byte_at c 1) (message_header c) (wide_at c 5) (take c.first input) x out) rest
