use borrow.Author.Rules.{rules}
use Rattle.writer.proofs.Streams as streams
use Rattle.writer.proofs.Bounds as bounds
use Rattle.writer.proofs.Plains as plains
use Rattle.writer.proofs.Writer.plain.Goals as goal

pub integer-requires : goal.integer-requires
integer-requires c = bounds.integer-small c.requires.fit _ c.column.ensures c.column-number.ensures c.in-4.is

pub returns-in-1 : goal.returns-in-1
returns-in-1 c = λ f g. streams.renamed _ _ (plains.undefined-is _ _ _ f g c.column.ensures c.in-1.is) c.byte.ensures

pub returns-in-3 : goal.returns-in-3
returns-in-3 c = λ f g. streams.renamed _ _ (plains.boolean-is _ _ _ f g c.column.ensures c.column-number.ensures c.in-3.is) c.boolean.ensures

pub returns-in-4 : goal.returns-in-4
returns-in-4 c = λ f g. streams.renamed _ _ (plains.integer-is _ _ _ f g c.column.ensures c.column-number.ensures c.in-4.is) c.integer.ensures

pub returns-in-5 : goal.returns-in-5
returns-in-5 c = λ f g. streams.renamed _ _ (plains.double-is _ _ _ f g c.column.ensures c.column-number.ensures c.in-5.is) c.double.ensures

pub returns-in-6 : goal.returns-in-6
returns-in-6 c = λ f g. streams.renamed _ _ (plains.string-is _ _ _ f g c.column.ensures _ c.body.ensures c.in-6.is) c.marked.ensures

pub returns-in-7 : goal.returns-in-7
returns-in-7 c = λ f g. streams.renamed _ _ (plains.document_is _ _ _ f g c.column.ensures _ c.body-in-7.ensures c.in-7.is) c.marked-in-7.ensures

pub returns-in-8 : goal.returns-in-8
returns-in-8 c = λ f g. streams.renamed _ _ (plains.date-is _ _ _ f g c.column.ensures c.column-number.ensures c.in-8.is) c.date.ensures

pub returns-in-11 : goal.returns-in-11
returns-in-11 c = λ f g. streams.renamed _ _ (plains.xml-is _ _ _ f g c.column.ensures _ c.body-in-11.ensures c.in-11.is) c.marked-in-11.ensures

pub returns-in-12 : goal.returns-in-12
returns-in-12 c = λ f g. streams.renamed _ _ (plains.bytes-is _ _ _ f g c.column.ensures _ c.body-in-12.ensures c.in-12.is) c.marked-in-12.ensures

pub returns-in-13 : goal.returns-in-13
returns-in-13 c =
    λ f g. streams.renamed _ _ (plains.ints-is _ _ _ f g c.column.ensures _ c.body-in-13.ensures c.column-flag.ensures c.in-13.is) c.numbers.ensures

pub returns-in-14 : goal.returns-in-14
returns-in-14 c =
    λ f g. streams.renamed _ _
    (plains.uints-is _ _ _ f g c.column.ensures _ c.body-in-14.ensures c.column-flag.ensures c.in-14.is) c.numbers-in-14.ensures

pub returns-in-15 : goal.returns-in-15
returns-in-15 c =
    λ f g. streams.renamed _ _
    (plains.doubles-is _ _ _ f g c.column.ensures _ c.body-in-15.ensures c.column-flag.ensures c.in-15.is) c.numbers-in-15.ensures

pub returns-in_default : goal.returns-in_default
returns-in_default c = λ f g. streams.renamed _ _ (plains.null_is _ _ _ f g c.column.ensures c.requires (search rules)) c.byte-in_default.ensures
