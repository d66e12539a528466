pub mod Asked
pub mod DecideRoutes
pub mod RequestIds
pub mod QuestionPlans
pub mod Questions
pub mod StrictQuestions
