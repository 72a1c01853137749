-- `text::Text::hex` meets its contract, by whether there are bytes.
-- Assumes nothing.
use Rattle.text.proofs.Texts.{then, marked}
use Rattle.text.proofs.Text.hex.Goals as goal

pub returns-then-size-eq0 : goal.returns-then-size-eq0
returns-then-size-eq0 c =
    record {
      longer = (λ z. then c.byte-text.ensures c.byte.ensures, λ n. absurd (n c.if-size-eq0.true));
      end_bound = c.byte.ensures.within;
    }

pub returns : goal.returns
returns c =
    record {
      longer = (λ z. absurd (c.if-size-eq0.false z), λ n. marked c.byte-text.ensures c.bytes.ensures);
      end_bound = c.bytes.ensures.within;
    }
