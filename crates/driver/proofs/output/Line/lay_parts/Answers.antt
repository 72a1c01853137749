-- `driver::output::Line::lay_parts` meets its contract: four pieces, one behind the other, for which the buffer has room.
-- Assumes nothing.
use Rattle.std.proofs.Common.{◌≡◌, ℕ, ◌≤◌, List, length, take, ap, ◌∙◌, arith, length-take}
use Rattle.text.specs.Said.{said}
use Rattle.driver.specs.Spelling.{parts_behind}
use Rattle.driver.proofs.Laying.{text_put, json_fits, bulk_fits, parts_laid}
use Rattle.driver.proofs.output.Line.lay_parts.Goals as goal

-- the payload is cut at what the line can hold, and the characters at their array
few : {s : List ℕ} (payload : List ℕ) → s ≡ take 150000 payload → length s ≤ 150000
few {s} payload e = omega (arith, ap length e, length-take 150000 payload)

short : (chars : List ℕ) (n : ℕ) {s : List ℕ} → length chars ≡ 4096 → s ≡ take n chars → length s ≤ 4096
short chars n full e = omega (arith, full, ap length e, length-take n chars)

pub lay_word-json-requires : goal.lay_word-json-requires
lay_word-json-requires c =
    let s = c.front-spelled.result.now in
    let a = c.args in
    let room : length c.self.inside.chars ≡ 304104 = omega arith in
    let few_bytes = few a.payload.now c.front-spelled.ensures in
    let few_chars = short a.answer.chars a.answer.end (omega arith) c.front.ensures in
    let text = text_put s a.parts few_bytes c.self.inside.chars room few_chars c.put-before.ensures.value c.put-before.ensures.buffer_after in
    json_fits s a.parts few_bytes c.self.inside.chars room few_chars c.put-before.auto.buffer text c.json.ensures

pub lay_word-bulk-requires : goal.lay_word-bulk-requires
lay_word-bulk-requires c =
    let s = c.front-spelled.result.now in
    let a = c.args in
    let room : length c.self.inside.chars ≡ 304104 = omega arith in
    let few_bytes = few a.payload.now c.front-spelled.ensures in
    let few_chars = short a.answer.chars a.answer.end (omega arith) c.front.ensures in
    let text = text_put s a.parts few_bytes c.self.inside.chars room few_chars c.put-before.ensures.value c.put-before.ensures.buffer_after in
    bulk_fits s a.parts few_bytes c.self.inside.chars room few_chars c.put-before.auto.buffer text c.json.ensures
    c.lay_word-json.auto.line c.lay_word-json.ensures c.bulk.ensures

pub returns : goal.returns
returns c =
    let s = c.front-spelled.result.now in
    let a = c.args in
    let room : length c.self.inside.chars ≡ 304104 = omega arith in
    let few_bytes = few a.payload.now c.front-spelled.ensures in
    let few_chars = short a.answer.chars a.answer.end (omega arith) c.front.ensures in
    let text = text_put s a.parts few_bytes c.self.inside.chars room few_chars c.put-before.ensures.value c.put-before.ensures.buffer_after in
    parts_laid s a.parts few_bytes c.self.inside.chars room few_chars c.put-before.auto.buffer text c.json.ensures
    c.lay_word-json.auto.line c.lay_word-json.ensures c.bulk.ensures
    c.lay_word-bulk.auto.line c.lay_word-bulk.ensures c.put-self-inside.ensures.value c.put-self-inside.ensures.buffer_after
    ∙ ap (λ (t : List ℕ). parts_behind t s a.parts) c.front.ensures
    ∙ ap (λ (p : List ℕ). parts_behind (said a.answer) p a.parts) c.front-spelled.ensures
